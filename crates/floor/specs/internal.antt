-- What the parts of the floor call find, one after the other: no promise of `floor` cites it.
pub mod Avoid
pub mod Onward
pub mod FloorChoice
