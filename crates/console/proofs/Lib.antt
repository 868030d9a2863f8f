pub mod OneCallReplied
pub mod PlansStepped
pub mod ChartsTaken
pub mod NothingChanged
pub mod LinesTaken
