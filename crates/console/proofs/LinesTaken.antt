-- A script's lines are taken one by one.
use Rattle.std.proofs.Common.{◌≡◌, ℕ, ◌<◌, List, [], ◌∷◌, ◌++◌, length, refl, subst, sym, inl, ◌∙◌}
use Rattle.std.specs.Prelude.{Option, Some, None, IfSome, Ok, Result}
use Rattle.std.specs.Str.Lossy.{utf8_lossy}
use Rattle.std.specs.Io.BufRead.{first_piece, drop_through}
use Rattle.std.specs.Io.KnownBytes.{IsAtEnd}
use Rattle.std.specs.Io.Iter.{YieldsKnownPiece}
use Rattle.protocol.specs.declared.command.Line.{Line}
use Rattle.protocol.specs.declared.command.Line.TheVariants.{Comment}
use Rattle.protocol.specs.declared.reply_line.ReplyLine.{ReplyLine}
use Rattle.protocol.specs.Lines.{Words, IsWordsOf, SaysLine}
use Rattle.console.specs.Models.{SessionModel}
use Rattle.console.specs.Lines.{Fetches, Stores, IsTakenLine}
use Rattle.console.specs.Scripts.{Bytes, line_end, BytesSayLine, AreFirstLines, TakesLines, TakesScript}

-- one line more of the script
one_line_more : (lines : List Bytes) (script rest : Bytes) → AreFirstLines lines script rest → 0 < length rest
    → AreFirstLines (lines ++ (first_piece line_end rest ∷ [])) script (drop_through line_end rest)
unfolding AreFirstLines
one_line_more [] script rest first some =
    subst (λ all. (0 < length all) × (first_piece line_end rest ≡ first_piece line_end all) × (drop_through line_end rest ≡ drop_through line_end all))
    first (some, refl, refl)
one_line_more (line ∷ more) script rest first some = (first.0, first.1, one_line_more more (drop_through line_end script) rest first.2 some)

-- a comment is taken with no reply, and leaves the session what it was
pub comment_taken : (fetches : Fetches) (stores : Stores) (s : SessionModel) (line : Line) → line ≡ Comment → IsTakenLine fetches stores s line (Ok None) s
comment_taken fetches stores s line is =
    subst (λ l. IsTakenLine fetches stores s l (Ok None) s) (sym is)
    (inl (record { file = None; reply = Ok None; fetched = refl; step = (refl, refl); stored = refl }))

module _ (fetches : Fetches) (stores : Stores) (s : SessionModel) where
  -- where reading a script has come to: the session has taken the lines before `rest`, and where the script is known, so is what is left
  pub record StandsIn (script left : Option Bytes) (t : SessionModel) : Type 0 where
    pub rest : Bytes
    pub takes : TakesScript fetches stores s script rest t
    pub same : IfSome script (λ _. left ≡ Some rest)

  pub begins : (script left : Option Bytes) → left ≡ script → StandsIn script left s
  unfolding TakesLines AreFirstLines
  begins None left e = record { rest = []; takes = record { lines = []; first = tt; taken = refl }; same = tt }
  begins (Some script) left e = record { rest = script; takes = record { lines = []; first = refl; taken = refl }; same = e }

module _ (fetches : Fetches) (stores : Stores) where
  -- one line more is taken
  one_taken_more : (s : SessionModel) (lines : List Bytes) (t : SessionModel) (bytes : Bytes) (line : Line) (reply : Option ReplyLine) (u : SessionModel)
      → TakesLines fetches stores s lines t → BytesSayLine bytes line → IsTakenLine fetches stores t line (Ok reply) u
      → TakesLines fetches stores s (lines ++ (bytes ∷ [])) u
  unfolding TakesLines
  one_taken_more s [] t bytes line reply u taken says next =
      (line, reply, u, says, subst (λ x. IsTakenLine fetches stores x line (Ok reply) u) taken next, refl)
  one_taken_more s (first ∷ more) t bytes line reply u taken says next =
      (taken.0, taken.1, taken.2, taken.3, taken.4, one_taken_more taken.2 more t bytes line reply u taken.5 says next)

module _ (fetches : Fetches) (stores : Stores) (s : SessionModel) {X : Type 0} (E : Type 0) (bytes_in : X → Bytes) where
  -- reading stands behind the line that came next, once that is taken
  behind_next : (script left left' : Option Bytes) (t : SessionModel) (x : X) (line : Line) (reply : Option ReplyLine) (u : SessionModel)
      → StandsIn fetches stores s script left t
      → YieldsKnownPiece {E = E} bytes_in (first_piece line_end) line_end left (Some (Ok x)) left'
      → BytesSayLine (bytes_in x) line → IsTakenLine fetches stores t line (Ok reply) u → StandsIn fetches stores s script left' u
  behind_next None left left' t x line reply u h piece says next = record {
    rest = [];
    takes = record {
      lines = h.takes.lines ++ (bytes_in x ∷ []);
      first = tt;
      taken = one_taken_more fetches stores s h.takes.lines t (bytes_in x) line reply u h.takes.taken says next;
    };
    same = tt;
  }
  behind_next (Some script) None left' t x line reply u h piece says next = absurd (cc h.same)
  behind_next (Some script) (Some xs) left' t x line reply u h piece says next =
      let e : xs ≡ h.rest = cc h.same in
      let some : 0 < length h.rest = subst (λ ys. 0 < length ys) e piece.0.0 in
      let same_line : bytes_in x ≡ first_piece line_end h.rest = subst (λ ys. bytes_in x ≡ first_piece line_end ys) e piece.0.1 in
      record {
        rest = drop_through line_end h.rest;
        takes = record {
          lines = h.takes.lines ++ (bytes_in x ∷ []);
          first = subst (λ line. AreFirstLines (h.takes.lines ++ (line ∷ [])) script (drop_through line_end h.rest)) (sym same_line)
              (one_line_more h.takes.lines script h.rest h.takes.first some);
          taken = one_taken_more fetches stores s h.takes.lines t (bytes_in x) line reply u h.takes.taken says next;
        };
        same = subst (λ ys. left' ≡ Some (drop_through line_end ys)) e piece.1;
      }

  -- so it does where the line is what its text says, and the text what its bytes do
  pub line_taken : (script left left' : Option Bytes) (t : SessionModel) (byte : ℕ) (item : Result X E) (x : X) (text : List ℕ) (line : Line) (reply : Option ReplyLine) (u : SessionModel)
      → StandsIn fetches stores s script left t → byte ≡ line_end
      → YieldsKnownPiece bytes_in (first_piece byte) byte left (Some item) left' → item ≡ Ok x
      → text ≡ utf8_lossy (bytes_in x) → (words : Words) × IsWordsOf text words × SaysLine words line
      → IsTakenLine fetches stores t line (Ok reply) u → StandsIn fetches stores s script left' u
  line_taken script left left' t byte item x text line reply u h is_end piece is_ok is_text says next =
      behind_next script left left' t x line reply u h
      (subst (λ b. YieldsKnownPiece {E = E} bytes_in (first_piece b) b left (Some (Ok x)) left') is_end
      (subst (λ i. YieldsKnownPiece {E = E} bytes_in (first_piece byte) byte left (Some i) left') is_ok piece))
      (subst (λ bytes. (words : Words) × IsWordsOf bytes words × SaysLine words line) is_text says) next

module _ (fetches : Fetches) (stores : Stores) (s : SessionModel) where
  -- at the end of the script all its lines are taken
  pub ends : (script left : Option Bytes) (t : SessionModel) → StandsIn fetches stores s script left t → IsAtEnd left → TakesScript fetches stores s script [] t
  ends None left t h at_end = record { lines = h.takes.lines; first = tt; taken = h.takes.taken }
  ends (Some script) None t h at_end = absurd (cc h.same)
  ends (Some script) (Some xs) t h at_end =
      let e : h.rest ≡ [] = sym (cc h.same) ∙ at_end in
      record { lines = h.takes.lines; first = subst (λ rest. AreFirstLines h.takes.lines script rest) e h.takes.first; taken = h.takes.taken }
