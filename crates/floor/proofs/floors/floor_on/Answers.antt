use Rattle.std.proofs.Common.{◌≡◌, ℕ, ◌+◌, ◌≤◌, Ok, Err, refl, sym, inl, inr, arith}
use Rattle.std.proofs.lemmas.Bool.{eqb-true, eqb-false}
use Rattle.std.proofs.lemmas.Result.{err_from_is_err_and}
use Rattle.chart.specs.Regret.{query}
use Rattle.search.specs.Snapshots.{snapshot_legs}
use Rattle.search.specs.laws.SnapshotLaws.{snapshot_is_chart}
use Rattle.floor.specs.declared.refusals.FloorRefusal.TheVariants.{NotAChain, NoRoute}
use Rattle.floor.specs.Answers.{floor_outcome, IsFloorOutcome}
use Rattle.floor.proofs.RoutesExtending.{no_route_extends, least_extension_small, empty_no_route, some_no_chain}
use Rattle.floor.proofs.FloorFromTotals.{floor_found, refused}
use Rattle.floor.proofs.floors.floor_on.Goals as goal
use Rattle.floor.proofs.floors.floor_on.Goals.{then-is_empty, else-is_empty}

pub returns-in_err-walked : goal.returns-in_err-walked
returns-in_err-walked c =
    let s = c.args.snapshot.now in
    let ends = c.args.ends in
    let ks = c.args.chain.now in
    let none = rw c.in_err-walked.ensures.ok_part at c.walk.ensures in
    let p = err_from_is_err_and c.from_residual.result c.from_residual.ensures.1 in
    let v = c.in_err-walked.ensures.value in
    let n = c.in_err-walked.ensures.ok_part in
    elim c.if-is_empty.branch [
      | then-is_empty w ↦
          let is = refused c.from_residual.result p.0 _ c.if-is_empty.unwalked NoRoute c.walk.result p.1 p.2 v n w.unwalked-is in
          let empty = empty_no_route (snapshot_legs s) (snapshot_is_chart s) ends.from ends.to ks none (eqb-true _ _ (sym w.if-is_empty.ensures)) in
          rw is (inr (refl, empty.0, empty.1))
      | else-is_empty w ↦
          let is = refused c.from_residual.result p.0 _ c.if-is_empty.unwalked NotAChain c.walk.result p.1 p.2 v n w.unwalked-is in
          let some = eqb-false _ _ (sym w.if-is_empty.ensures) in
          rw is (inl (refl, some_no_chain (snapshot_legs s) (snapshot_is_chart s) ends.from ends.to ks none (omega arith)))
    ]

pub returns-in_err-onward : goal.returns-in_err-onward
returns-in_err-onward c =
    let legs = snapshot_legs c.args.snapshot.now in
    let w = c.in_ok-walked.walked in
    let walk = (rw c.in_ok-walked.ensures.ok_part at c.walk.ensures).1.walk in
    let nothing = rw c.in_err-onward.ensures.ok_part at c.least_onward.ensures in
    let p = err_from_is_err_and c.from_residual-in_err-onward.result c.from_residual-in_err-onward.ensures.1 in
    let v = c.in_err-onward.ensures.value in
    let n = c.in_err-onward.ensures.ok_part in
    let is : c.from_residual-in_err-onward.result ≡ Err NoRoute = cc (p.1, p.2, v, n) in
    rw is (inr (refl, (w.end, walk.chain), no_route_extends legs c.args.ends.from c.args.ends.to c.args.chain.now w.end w.used walk nothing))

pub overflow_add-result : goal.overflow_add-result
overflow_add-result c =
    let s = c.args.snapshot.now in
    let w = c.in_ok-walked.walked in
    let walked = (rw c.in_ok-walked.ensures.ok_part at c.walk.ensures) in
    let onward = rw c.in_ok-onward.ensures.ok_part at c.least_onward.ensures in
    let small = least_extension_small (snapshot_legs s) c.args.ends.from c.args.ends.to c.args.chain.now w.end w.used walked.1.walk c.in_ok-onward.onward onward (snapshot_is_chart s) walked.0 w.high walked.1.sums in
    omega arith

-- where all three calls found something
found : (c : goal.In_ok-choice_time) → (c.in_ok-choice_time.choice_time ≤ c.in_ok-walked.walked.high + c.in_ok-onward.onward) × ((y : ℕ) → c.in_ok-walked.walked.high + c.in_ok-onward.onward ≡ c.in_ok-choice_time.choice_time + y → IsFloorOutcome (query (snapshot_legs c.args.snapshot.now) c.args.ends.from c.args.ends.to) c.args.chain.now (floor_outcome (Ok y)))
found c =
    let legs = snapshot_legs c.args.snapshot.now in
    let ends = c.args.ends in
    let w = c.in_ok-walked.walked in
    let ks = c.args.chain.now in
    let along = (rw c.in_ok-walked.ensures.ok_part at c.walk.ensures).1 in
    let onward = rw c.in_ok-onward.ensures.ok_part at c.least_onward.ensures in
    let choice_time = rw c.in_ok-choice_time.ensures.ok_part at (c.floor_choice_time.ensures ks along) in
    floor_found legs ends.from ends.to ks w along c.in_ok-onward.onward onward c.in_ok-choice_time.choice_time choice_time

pub overflow_sub-result : goal.overflow_sub-result
overflow_sub-result c = let below = (found c).0 in omega arith

pub returns : goal.returns
returns c = let f = found c in f.1 _ (omega (arith, f.0))
