pub mod RecordPlaces
pub mod ReadingStates
