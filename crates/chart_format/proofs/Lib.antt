pub mod LegReadBack
pub mod SameOrLonger
pub mod BytesPass
pub mod OneEnding
pub mod OneView
pub mod OneVerdict
