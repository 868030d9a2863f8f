use Rattle.std.proofs.Common.{◌+◌, ◌≤◌, length, refl, arith}
use Rattle.plan.specs.Plans.{ledger_of}
use Rattle.runs.proofs.OneOutcome.{runs_have_one_outcome}
use Rattle.runs.proofs.OneMoreCall.{no_calls_so_far, one_more_call_at, part_fits, part_long, all_calls_so_far}
use Rattle.runs.proofs.run.run.Goals as goal
use Rattle.runs.proofs.run.run.Goals.{After-places-places}

pub loop-i-init : goal.loop-i-init
loop-i-init g c = no_calls_so_far g.C.Chart.fixes g.C.Chart.legs c.args.plan.now.chart (ledger_of g.C.Chart.legs c.args.plan.now) c.args.replies.now c.args.memory.now c.args.plan.now refl refl

-- the call's part lies in the memory
fits : (g : _) (c : After-places-places g) → c.loop-i.used + c.places-places.result ≤ length c.loop-i.memory
fits g c = part_fits c.args.calls.now c.loop-i.i _ c.loop-i.memory c.loop-i.used c.places-places.result c.loop-i-test.true c.loop-i.invariant.places c.places-places.ensures (omega (arith, c.in_ok-check_room.ensures.enough_memory, c.loop-i.auto.memory))

pub loop-i-preserved : goal.loop-i-preserved
loop-i-preserved g c =
    let inside = fits g (goal.at.loop-i-preserved g c).After-places-places in
    one_more_call_at g.C.Chart.fixes g.C.Chart.legs c.args.plan.now.chart (ledger_of g.C.Chart.legs c.args.plan.now) c.args.calls.now c.loop-i.i _ _ _ c.args.replies.now c.loop-i.replies c.args.memory.now c.loop-i.memory c.execute.result c.execute.new.part c.loop-i.used _ _ c.loop-i.plan c.execute.new.plan
    (omega arith) (omega arith) (omega (arith, c.places-places.ensures)) (omega arith)
    c.loop-i.invariant c.loop-i-test.true
    (omega (arith, c.loop-i.auto.replies, c.in_ok-check_room.ensures.enough_replies, c.loop-i-test.true))
    (record {
      space = omega (arith, inside);
      is_reply = c.execute.ensures.is_reply;
      long = part_long c.loop-i.memory c.execute.new.part c.loop-i.used c.places-places.result _ inside (omega arith) c.execute.auto.part;
      ledger = c.execute.ensures.ledger;
      counted = c.execute.ensures.counted;
      chart = c.execute.ensures.chart;
    })

pub returns-clause-law : goal.returns-clause-law
returns-clause-law g c = all_calls_so_far g.C.Chart.fixes g.C.Chart.legs c.args.plan.now.chart (ledger_of g.C.Chart.legs c.args.plan.now) c.args.calls.now c.loop-i.i c.args.replies.now c.loop-i.replies c.args.memory.now c.loop-i.memory c.loop-i.used c.loop-i.plan c.loop-i-test.false c.in_ok-check_room.ensures c.loop-i.invariant

pub returns-in_err-check_room-clause-one_outcome : goal.returns-in_err-check_room-clause-one_outcome
returns-in_err-check_room-clause-one_outcome g c = runs_have_one_outcome

pub returns-clause-one_outcome : goal.returns-clause-one_outcome
returns-clause-one_outcome g c = runs_have_one_outcome
