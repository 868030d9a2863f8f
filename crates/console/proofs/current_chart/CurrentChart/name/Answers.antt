use Rattle.std.proofs.Common.{rules, ◌≡◌, sym, subst, arith}
use Rattle.std.specs.Prelude.{Ok}
use Rattle.std.specs.Str.{IsUtf8}
use Rattle.std.proofs.lemmas.Result.{MatchResult-at_ok}
use Rattle.reader.specs.Readings.{indexed_names}
use Rattle.console.proofs.ChartsTaken.{name_is_text}
use Rattle.console.proofs.current_chart.CurrentChart.name.Goals as goal

pub unwrap-text-requires : goal.unwrap-text-requires
unwrap-text-requires c =
    let is : c.name.result ≡ Ok c.in_ok-name.name = grind arith in
    let named = MatchResult-at_ok _ _ c.in_ok-name.name is c.name.ensures.gives_the_name in
    let text : IsUtf8 c.in_ok-name.name.text.now = subst IsUtf8 (sym named.text) (name_is_text (indexed_names c.in-Some.index) c.args.fix c.name.ensures.names_are_good named.there) in
    search rules
