use Rattle.std.proofs.Common.{IsTrue, ◌↔◌, sym, subst, subst₂}
use Rattle.chart.specs.Regret.{IsPreferred}
use Rattle.least.specs.internal.BranchAndBound.{ShowsPrunable}
use Rattle.least.proofs.LexicalOrder.{preferred_if_told}
use Rattle.least.proofs.PrunedChains.{preferred_shows}
use Rattle.least.proofs.branch_and_bound.BranchAndBound.can_prune_by.Goals as goal

pub returns-in-Some : goal.returns-in-Some
returns-in-Some c =
    let b = c.in-Some.incumbent in
    let ks = c.args.self.now.chain.items in
    let told = preferred_if_told c.rank.result.0 c.rank.result.1.now c.args.least c.as_slice-list.result.now c.lt.result c.lt.ensures in
    let of_rank = subst₂ (λ y p. IsTrue c.lt.result ↔ IsPreferred y p c.args.least c.as_slice-list.result.now) c.rank.ensures.0 c.rank.ensures.1 told in
    let of_chain = subst (λ l. IsTrue c.lt.result ↔ IsPreferred b.regret b.list.items c.args.least l) c.as_slice-list.ensures.value of_rank in
    subst (λ incumbent. IsTrue c.lt.result ↔ ShowsPrunable c.args.least ks incumbent) (sym c.in-Some.is) (preferred_shows b.regret b.list.items c.args.least ks c.lt.result of_chain)
