use Rattle.std.proofs.Common.{◌∙◌, sym}
use Rattle.search.proofs.FixStates.{settled_more, state_other, labelled_small, reached_not_unreached, reached_not_settled}
use Rattle.search.specs.declared.search_state.FixState.TheVariants.{Settled}
use Rattle.search.proofs.RelaxingSteps.{relaxing_begins, relaxing_ends}
use Rattle.search.proofs.search_state.Search.settle.Goals as goal

pub relax_legs-requires : goal.relax_legs-requires
relax_legs-requires g c = (c.requires.rest.0, relaxing_begins (g.K.Kind.laws c.args.self.now.kind.now) c.requires.rest.1 c.requires.pick)

pub returns-clause-settles : goal.returns-clause-settles
returns-clause-settles g c =
    let laws = g.K.Kind.laws c.args.self.now.kind.now in
    let state = c.args.self.now.state.now in
    let reached = c.requires.pick.reached in
    let relaxed = c.relax_legs.ensures.advances in
    let small = labelled_small state c.args.u (reached_not_unreached _ reached) in
    let unsettled = reached_not_settled _ reached in
    record {
      rest = λ departure rest. relaxing_ends (relaxed.relaxing departure (relaxing_begins laws rest c.requires.pick));
      count = relaxed.count ∙ settled_more state c.args.u small unsettled;
      settled = λ x ne d. sym (state_other state c.args.u small unsettled Settled x ne) ∙ relaxed.settled x d;
    }
