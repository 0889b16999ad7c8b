-- The fixes of a record that is written, by position: f 0 to f (n - 1). What the writer promises of them follows from how it begins.
use Rattle.std.specs.Prelude.{◌≡◌, ℕ, ◌≤◌, length}
use Rattle.std.proofs.Common.{sym, ◌∙◌, ap, subst}
use Rattle.std.proofs.Math.Seq.{length-sets}
use mathlib.Core.List.{List}
use Rattle.std.proofs.lemmas.List.Edits.{sets}
use Rattle.distance.specs.Fix.{Fix, Bounded}
use Rattle.distance.specs.Laws.All.{All}
use Rattle.format.specs.declared.Kind.{Kind as CodeKind}
use Rattle.format.specs.Kinds.{Kind, layout}
use Rattle.format.specs.Format.{record_length, each, all_bytes, header_bytes}
use Rattle.format.proofs.Laws.Kinds.{is_kind}
use Rattle.format.proofs.Laws.Each.{length_each, each_all}
use Rattle.record.specs.Answers.{gives, turns_away}
use Rattle.record.specs.Laws.Scan.{Timed}
use Rattle.record.proofs.Laws.Accepted.{places_good}
use Rattle.record.proofs.Laws.First.{some_none}
use Rattle.writing.specs.Writing.{ReadsBack, Writes}
use Rattle.writing.specs.Laws.Writing.{Begun}
use Rattle.writing.proofs.Laws.Writing.{writes_fit, begun_refused, begun_done}
use Rattle.writing.proofs.Laws.ReadsBack.{writes_good, writes_back}

-- what the second pass asks for: the fixes are few, the output has room, and each fix is within its kind's limit
pub record Puttable (K : Kind) (f : ℕ → Fix) (n : ℕ) (begun : List ℕ) : Type 0 where
  pub few : n ≤ 4096
  pub room : record_length K n ≤ length begun
  pub bounded : All (Bounded K.limit) (each f 0 n)

module _ (κ : CodeKind) (f : ℕ → Fix) (n : ℕ) (out begun : List ℕ) where
  abbrev K : Kind
  K = layout κ

  abbrev l : List Fix
  l = each f 0 n

  -- a list that is turned away leaves the output ..
  pub writes_refused : (k : ℕ) → Begun K l out (turns_away k) begun → Writes K l out (turns_away k) begun
  writes_refused k b = let done = begun_refused K l out begun k b in (done.0, done.1, λ h. absurd (some_none (sym b.0 ∙ h)))

  module _ (bytes : ℕ) (b : Begun K l out (gives bytes) begun) where
    -- .. and one that isn't is put down after the head
    pub puttable : Puttable K f n begun
    puttable =
        let fit = writes_fit K l (length out) b.0 in
        let long : length l ≡ n = length_each f 0 n in
        let same : length begun ≡ length out = ap length b.2 ∙ length-sets out 0 (header_bytes K 65535 (length l)) in
        record {
          few = rw long at fit.0;
          room = rw same (rw long at fit.1);
          bounded = places_good K.limit l (writes_good K l (length out) b.0).1.inside;
        }

    pub writes_lent : All Timed l → ((k : ℕ) → K.silence_width ≡ 0 → (f k).silence ≡ 0) → (after : List ℕ) → after ≡ sets begun 10 (all_bytes K l) → Writes K l out (gives bytes) after
    writes_lent timed silent after put =
        let done = begun_done K l out begun (is_kind κ) bytes b after put in
        (done.0, done.1, λ h. subst (ReadsBack K l) (sym done.1) (writes_back κ l out timed (each_all f 0 n (λ k p q. record { no_byte = silent k })) h))
