-- Totals made of few legs stay small.
use Rattle.std.proofs.Common.{◌≡◌, ℕ, ◌*◌, ◌≤◌, arith}
use Rattle.chart.specs.declared.kind.QuickestTotal.{QuickestTotal}
use Rattle.chart.specs.Limits.{max_seconds}
use Rattle.chart.specs.Kinds.{IsMadeOf, none, more, Times, IsBounded, seconds_rule, quickest_rule}

pub seconds_small : (c : Times) → IsBounded c → (n t : ℕ) → IsMadeOf (seconds_rule c) n t → t ≤ n * max_seconds
seconds_small c b n t none = omega arith
seconds_small c b n t (more j a k l m) = let h = seconds_small c b j a m in let i = b k l in let o = l.bounded in omega arith

pub quickest_seconds_small : (n : ℕ) (t : QuickestTotal) → IsMadeOf quickest_rule n t → t.seconds ≤ n * max_seconds
quickest_seconds_small n t none = omega arith
quickest_seconds_small n t (more j a k l m) = let h = quickest_seconds_small j a m in let o = l.bounded in omega arith

pub quickest_legs : (n : ℕ) (t : QuickestTotal) → IsMadeOf quickest_rule n t → t.legs ≡ n
quickest_legs n t none = omega arith
quickest_legs n t (more j a k l m) = let h = quickest_legs j a m in omega arith
