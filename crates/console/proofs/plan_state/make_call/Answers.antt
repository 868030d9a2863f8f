use Rattle.std.proofs.Common.{rules, arith, ◌≡◌, ◌-◌, ap, ◌∙◌, subst}
use Rattle.search.specs.Snapshots.{snapshot_legs}
use Rattle.plan.specs.Plans.{chart_of, ledger_of}
use Rattle.console.specs.Models.{filed}
use Rattle.console.specs.Sessions.{chart_model}
use Rattle.console.specs.Calls.{IsCallOf}
use Rattle.console.proofs.plan_state.make_call.Goals as goal

pub returns : goal.returns
returns c =
    let chart = chart_model (chart_of c.args.plan.now) in
    let most : c.most_legs.result ≡ chart.fixes - 1 = omega (arith, c.most_legs.ensures.one_fewer) in
    record {
      call = c.as_call-call.result;
      reply = c.reply_to-reply.result;
      memory = _;
      memory' = c.reply_to-reply.new.memory;
      asks = subst (λ n. IsCallOf c.args.call.now n c.as_call-call.result) most c.as_call-call.ensures.asked;
      room = search rules;
      replied = c.reply_to-reply.ensures.is_reply_to_call;
      told = c.answer_of.ensures;
      becomes = ap (λ own. filed (chart_model own) (ledger_of snapshot_legs c.reply_to-reply.new.plan)) c.reply_to-reply.ensures.chart ∙ ap (filed chart) c.reply_to-reply.ensures.ledger;
    }
