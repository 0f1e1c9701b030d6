-- An export by its rows (specs/Exports): the two refusals, and what is written.
use Prim.Native.Nat.{ℕ, ◌<◌, ◌≤◌}
use mathlib.Core.Path.{◌≡◌, sym, ap, ◌∙◌}
use mathlib.Core.Logic.{◌≢◌}
use mathlib.Core.List.{List, ◌++◌}
use lib.ListN.{length, drop, length-append}
use native.Mathlib.Decide.{ℕ_discrete, dec_lt}
use native.Mathlib.Omega.{arith}
use borrow.Author.Tests.{lt-ltb, le-ltb, eq-eqb, ne_eqb}
use Rattle.std.specs.Prelude.{Result, Ok}
use Rattle.model.specs.Lists.{◌or◌, count}
use Rattle.model.specs.Kinds.{narrow_kind, store_size}
use Rattle.model.specs.declared.Answer.TheVariants as A
use Rattle.model.specs.Effects.{Effect, says, refusals, wrong_length}
use Rattle.model.specs.Scan.{slots_seen, is_committed, entries_seen, lowest_broken, scanned, scan}
use Rattle.model.proofs.ScanLaws.{seen-length, KeepsRules, keeps-lowest, lowest-keeps, scan-finds}
use Rattle.resp.specs.declared.Refused.{Refused}
use Rattle.resp.specs.Streams.{stream_of}
use Rattle.resp.specs.Exports.{committed_set, target_size, unexported, exported_to, export}
use Rattle.resp.proofs.ImportLaws.{refused≢done}

abbrev lowest : List ℕ → ℕ
lowest s = lowest_broken (slots_seen narrow_kind s)

-- ── the scan's answer ──
found≢refused : (n a b : ℕ) → A.Found n ≢ A.Refused a b
found≢refused n a b h = let z : ◌≡◌ {A = ℕ} 0 1 = cc in omega arith

module _ (s : List ℕ) (l : length s ≡ store_size narrow_kind) where
  damaged-answer : lowest s < narrow_kind.slots → (scan narrow_kind s).answer ≡ A.Refused 18 (lowest s)
  unfolding scan refusals wrong_length scanned says
  damaged-answer o = rw (eq-eqb (length s) (store_size narrow_kind) l, lt-ltb (lowest s) (length (slots_seen narrow_kind s)) (omega (arith, seen-length narrow_kind s)))

  found-answer : KeepsRules narrow_kind s → (scan narrow_kind s).answer ≡ A.Found (count is_committed (slots_seen narrow_kind s))
  unfolding says
  found-answer k = ap (λ (e : Effect). e.answer) (scan-finds narrow_kind s l k)

  -- where the scan is not refused: the store keeps the rules, and these are its entries
  pub scan-kept : ((a b : ℕ) → (scan narrow_kind s).answer ≢ A.Refused a b) → KeepsRules narrow_kind s × ((scan narrow_kind s).station.entries ≡ entries_seen (slots_seen narrow_kind s))
  unfolding says
  scan-kept n = (keeps (dec_lt (lowest s) narrow_kind.slots), ap (λ (e : Effect). e.station.entries) (scan-finds narrow_kind s l (keeps (dec_lt (lowest s) narrow_kind.slots))))
    where
      keeps : Dec (lowest s < narrow_kind.slots) → KeepsRules narrow_kind s
      keeps (yes o) = absurd (n 18 (lowest s) (damaged-answer o))
      keeps (no o) = lowest-keeps narrow_kind s (omega arith)

-- ── the export ──
module _ (s t : List ℕ) where
  -- 1
  pub wrong-store : length s ≢ store_size narrow_kind → export s t ≡ unexported 1 0 t
  unfolding export wrong_length ◌or◌
  wrong-store h = rw (ne_eqb (length s) (store_size narrow_kind) h)

  module _ (l : length s ≡ store_size narrow_kind) where
    pub wrong_target : length t ≢ target_size → export s t ≡ unexported 1 0 t
    unfolding export wrong_length ◌or◌
    wrong_target h = rw (eq-eqb (length s) (store_size narrow_kind) l, ne_eqb (length t) target_size h)

    module _ (m : length t ≡ target_size) where
      -- 18
      pub export-damaged : lowest s < narrow_kind.slots → export s t ≡ unexported 18 (lowest s) t
      unfolding export wrong_length ◌or◌
      export-damaged o =
          rw (eq-eqb (length s) (store_size narrow_kind) l, eq-eqb (length t) target_size m, lt-ltb (lowest s) (length (slots_seen narrow_kind s)) (omega (arith, seen-length narrow_kind s)))

      pub export-written : KeepsRules narrow_kind s → export s t ≡ exported_to (stream_of (committed_set s)) t
      unfolding export wrong_length ◌or◌
      export-written k =
          rw (eq-eqb (length s) (store_size narrow_kind) l, eq-eqb (length t) target_size m, le-ltb (lowest s) (length (slots_seen narrow_kind s)) (omega (arith, keeps-lowest narrow_kind s k)))

      -- by the answer of the scan
      pub export-refused : (a b : ℕ) → (scan narrow_kind s).answer ≡ A.Refused a b → export s t ≡ unexported a b t
      export-refused a b h = go (dec_lt (lowest s) narrow_kind.slots)
        where
          go : Dec (lowest s < narrow_kind.slots) → export s t ≡ unexported a b t
          go (yes o) =
              let q : A.Refused 18 (lowest s) ≡ A.Refused a b = sym (damaged-answer s l o) ∙ h in
              let qa : 18 ≡ a = cc in
              let qb : lowest s ≡ b = cc in
              export-damaged o ∙ λ i. unexported (qa i) (qb i) t
          go (no o) = absurd (found≢refused _ a b (sym (found-answer s l (lowest-keeps narrow_kind s (omega arith))) ∙ h))

-- an export that is done
pub record Exported (s t : List ℕ) (n : ℕ) : Type 0 where
  pub store_long : length s ≡ store_size narrow_kind
  pub keeps : KeepsRules narrow_kind s
  pub long : length (stream_of (committed_set s)) ≡ n
  pub target : (export s t).target ≡ stream_of (committed_set s) ++ drop (length (stream_of (committed_set s))) t

done-injective : (m n : ℕ) → ◌≡◌ {A = Result ℕ Refused} (Ok m) (Ok n) → m ≡ n
done-injective m n h = cc

pub export-done : (s t : List ℕ) (n : ℕ) → (export s t).answer ≡ Ok n → Exported s t n
export-done s t n h = first (ℕ_discrete (length s) (store_size narrow_kind))
  where
    refused : (a b : ℕ) → export s t ≡ unexported a b t → ⊥
    refused a b e = refused≢done a b n (sym (ap (λ x. x.answer) e) ∙ h)

    third : length s ≡ store_size narrow_kind → length t ≡ target_size → Dec (lowest s < narrow_kind.slots) → Exported s t n
    third l m (yes o) = absurd (refused 18 (lowest s) (export-damaged s t l m o))
    third l m (no o) =
        let k : KeepsRules narrow_kind s = lowest-keeps narrow_kind s (omega arith) in
        let e = export-written s t l m k in
        record { store_long = l; keeps = k; long = unfold exported_to in done-injective _ n (sym (ap (λ x. x.answer) e) ∙ h); target = unfold exported_to in ap (λ x. x.target) e }

    second : length s ≡ store_size narrow_kind → Dec (length t ≡ target_size) → Exported s t n
    second l (yes m) = third l m (dec_lt (lowest s) narrow_kind.slots)
    second l (no m) = absurd (refused 1 0 (wrong_target s t l m))

    first : Dec (length s ≡ store_size narrow_kind) → Exported s t n
    first (yes l) = second l (ℕ_discrete (length t) target_size)
    first (no l) = absurd (refused 1 0 (wrong-store s t l))

-- the stream lies in the target
pub export-inside : (s t : List ℕ) (n : ℕ) → (export s t).answer ≡ Ok n → n ≤ length (export s t).target
export-inside s t n h = let e = export-done s t n h in omega (arith, ap length e.target, length-append (stream_of (committed_set s)) (drop (length (stream_of (committed_set s))) t), e.long)
