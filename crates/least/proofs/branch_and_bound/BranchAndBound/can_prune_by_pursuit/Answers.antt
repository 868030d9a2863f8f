use Rattle.least.proofs.branch_and_bound.BranchAndBound.can_prune_by_pursuit.Goals as goal

pub returns : goal.returns
returns c =
    let ready = c.requires.ready in
    (c.bound.result, c.bound.ensures.below c.args.self.now.chain.items (record { leads = ready.walk.chain.leads; sums = ready.sums; flagged = ready.flagged }), c.can_prune_by.ensures)
