pub mod ComputedChoices
pub mod FourFixHasThreeRoutes
pub mod FourFixLegs
pub mod FourFixAnswers
pub mod FourFixPlan
pub mod TwoFixFilesMean
pub mod AllExamples
