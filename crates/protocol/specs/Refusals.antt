-- The number of the refusal of any command, and what it says in words.
use Rattle.std.specs.Prelude.{ℕ, List}
use Rattle.chart.specs.Refusals.{lattice_number, lattice_words}
use Rattle.reader.specs.Readings.{name_number, name_words}
use Rattle.regret.specs.Answers.{regret_number, regret_words}
use Rattle.floor.specs.Answers.{floor_number, floor_words}
use Rattle.least.specs.Answers.{route_number, route_words}
use Rattle.plan.specs.Refusals.{amend_number, amend_words, ends_number, ends_words, best_number, best_words}
use Rattle.protocol.specs.declared.rejection.AnyRefusal.{AnyRefusal}
use Rattle.protocol.specs.declared.rejection.AnyRefusal.TheVariants.{Lattice, Name, Ends, Amend, Route, Regret, Floor, Best}

abbrev pub any_refusal_number : AnyRefusal → ℕ
any_refusal_number (Lattice refusal) = lattice_number refusal
any_refusal_number (Name refusal) = name_number refusal
any_refusal_number (Ends refusal) = ends_number refusal
any_refusal_number (Amend refusal) = amend_number refusal
any_refusal_number (Route refusal) = route_number refusal
any_refusal_number (Regret refusal) = regret_number refusal
any_refusal_number (Floor refusal) = floor_number refusal
any_refusal_number (Best refusal) = best_number refusal

abbrev pub any_refusal_words : AnyRefusal → List ℕ
any_refusal_words (Lattice refusal) = lattice_words refusal
any_refusal_words (Name refusal) = name_words refusal
any_refusal_words (Ends refusal) = ends_words refusal
any_refusal_words (Amend refusal) = amend_words refusal
any_refusal_words (Route refusal) = route_words refusal
any_refusal_words (Regret refusal) = regret_words refusal
any_refusal_words (Floor refusal) = floor_words refusal
any_refusal_words (Best refusal) = best_words refusal
