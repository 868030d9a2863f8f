pub mod FourFix
pub mod FourFixPlan
pub mod TwoFix
pub mod AllExamples
