mod FaultPassedOn
mod NamesAt
mod PrefixWithRecord
mod AfterRecords
mod MemoryFilled
mod LegsAlwaysTaken
