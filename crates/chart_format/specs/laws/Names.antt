-- That the names of fixes are good is known in one way at most. There is nothing here to believe:
-- it stands among the definitions since a type that keeps such names cites it.
use Rattle.std.specs.Prelude.{ℕ, List}
use Rattle.std.proofs.Common.{ap, inl, inr, arith}
use Rattle.std.proofs.Props.{props}
use Rattle.std.specs.Coded.{×_prop, le_prop}
use Rattle.chart_format.specs.Format.{Name, IsNameByte, AreFixNames}

name_byte_prop : (b : ℕ) → IsProp (IsNameByte b)
name_byte_prop b (inl x) (inl y) = ap inl (×_prop le_prop le_prop x y)
name_byte_prop b (inl x) (inr y) = absurd (omega arith)
name_byte_prop b (inr x) (inl y) = absurd (omega arith)
name_byte_prop b (inr x) (inr y) = ap inr (×_prop le_prop le_prop x y)

pub fix_names_prop : (names : List Name) → IsProp (AreFixNames names)
fix_names_prop names = Prim.hlevel (name_byte_prop, props)
