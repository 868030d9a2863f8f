-- What holds of the steps by which a line is taken apart; no promise of a public function cites it.
pub mod Parses
