use Rattle.std.proofs.Common.{rules, ◌≡◌, ap, ◌∙◌}
use Rattle.std.specs.Io.Iter.{split_byte, split_known_bytes}
use Rattle.std.specs.Str.Lossy.{utf8_lossy}
use Rattle.console.specs.Sessions.{session_of}
use Rattle.console.specs.Scripts.{Bytes, TakesScript}
use Rattle.console.proofs.LinesTaken.{begins, line_taken}
use Rattle.console.proofs.program.run_script.Goals as goal

pub loop-bytes-init : goal.loop-bytes-init
loop-bytes-init g c =
    let fetches = g.F.Files.fetches c.args.files.now in
    let stores = g.F.Files.stores c.args.files.now in
    let s = session_of c.args.session.now in
    let same : c.into_iter-bytes-iterator.result ≡ c.split-bytes-items.result = c.into_iter-bytes-iterator.ensures.into_iter_gives in (
      tt,
      tt,
      ap split_byte same ∙ c.split-bytes-items.ensures.byte,
      begins fetches stores s (g.R.Read.remaining c.args.input) _ (ap (split_known_bytes g.R.Read.remaining) same ∙ c.split-bytes-items.ensures.bytes),
    )

pub returns-in_err-println : goal.returns-in_err-println
returns-in_err-println g c =
    let fetches = g.F.Files.fetches c.args.files.now in
    let stores = g.F.Files.stores c.args.files.now in
    let s = session_of c.args.session.now in
    let after = session_of c.take_line.new.session in
    let is_text : c.as_str.result.now ≡ utf8_lossy c.in_ok-bytes.field-0.items =
    c.as_str.ensures.value ∙ c.in_ok-text.ensures.lossy ∙ ap utf8_lossy c.as_slice.ensures.value in
    let h = line_taken fetches stores s _ _ (g.R.Read.remaining c.args.input) _ _ _ _ _ _ _ _ _ after c.loop-bytes.invariant.3
    c.loop-bytes.invariant.2 c.in-Some.ensures.steps.2 c.in_ok-bytes.was is_text c.in_ok-line.ensures.says c.in_ok-reply.ensures.taken in
    let broken_off : (rest : Bytes) × TakesScript fetches stores s (g.R.Read.remaining c.args.input) rest after = (h.rest, h.takes) in
    search rules

pub loop-bytes-preserved : goal.loop-bytes-preserved
loop-bytes-preserved g c =
    let fetches = g.F.Files.fetches c.args.files.now in
    let stores = g.F.Files.stores c.args.files.now in
    let s = session_of c.args.session.now in
    let after = session_of c.take_line.new.session in
    let is_text : c.as_str.result.now ≡ utf8_lossy c.in_ok-bytes.field-0.items =
    c.as_str.ensures.value ∙ c.in_ok-text.ensures.lossy ∙ ap utf8_lossy c.as_slice.ensures.value in
    let h = line_taken fetches stores s _ _ (g.R.Read.remaining c.args.input) _ _ _ _ _ _ _ _ _ after c.loop-bytes.invariant.3
    c.loop-bytes.invariant.2 c.in-Some.ensures.steps.2 c.in_ok-bytes.was is_text c.in_ok-line.ensures.says c.in_ok-reply.ensures.taken in
    (tt, tt, c.in-Some.ensures.steps.1 ∙ c.loop-bytes.invariant.2, h)
