-- How the code of a pursuit stands between two steps: no public call cites it.
pub mod Margins
pub mod Heights
