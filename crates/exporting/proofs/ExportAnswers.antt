-- What an export answers and leaves in its target, by the tests that the code makes: the lengths, and what the scan says.
use Prim.Native.Nat.{ℕ, ◌+◌}
use mathlib.Core.Path.{◌≡◌, sym, ap, ◌∙◌}
use mathlib.Core.List.{List, ◌++◌}
use lib.ListN.{length, drop}
use native.Mathlib.Omega.{arith}
use Rattle.std.specs.Prelude.{Ok}
use Rattle.model.specs.declared as machine
use Rattle.model.specs.Types.{Outcome}
use Rattle.model.specs.declared.Answer.TheVariants as A
use Rattle.model.specs.declared.Kind.TheVariants.{Narrow}
use Rattle.model.specs.Kinds.{narrow_kind, store_size}
use Rattle.model.specs.Listed.{kind_of, listed_entries, listed_outcome}
use Rattle.model.specs.Effects.{outcome_of}
use Rattle.model.specs.Scan.{slots_seen, entries_seen, scan}
use Rattle.model.proofs.ScanLaws.{KeepsRules}
use Rattle.decimal.specs.Written.{written}
use Rattle.resp.specs.Streams.{Transaction, stream_of}
use Rattle.resp.specs.Exports.{refused, committed_set, target_size, Export, exported_to, export}
use Rattle.resp.proofs.ExportRows.{scan-kept, export-refused, export-written}

-- an answer and the target at exit
pub handed : (m m' : Export) → m ≡ m' → (m'.answer ≡ m.answer) × (m'.target ≡ m.target)
handed m m' e = (ap (λ (x : Export). x.answer) (sym e), ap (λ (x : Export). x.target) (sym e))

-- ── what the scan says ──
module _ (s : List ℕ) (l : length s ≡ store_size narrow_kind) (out : machine.Outcome.Outcome) (q : listed_outcome out ≡ outcome_of (scan (kind_of Narrow) s)) where
  said-is : out.answer ≡ (scan narrow_kind s).answer
  unfolding kind_of outcome_of
  said-is = ap (λ (o : Outcome). o.answer) q

  entries-are : listed_entries out.station.entries ≡ (scan narrow_kind s).station.entries
  unfolding kind_of outcome_of
  entries-are = ap (λ (o : Outcome). o.station.entries) q

  pub refused-is : (t : List ℕ) (a b : ℕ) → length t ≡ target_size → out.answer ≡ A.Refused a b → (refused a b ≡ (export s t).answer) × (t ≡ (export s t).target)
  refused-is t a b m h = handed (export s t) _ (export-refused s t l m a b (sym said-is ∙ h))

  -- any other answer
  pub kept : ((a b : ℕ) → out.answer ≡ A.Refused a b → ⊥)
      → KeepsRules narrow_kind s × (listed_entries out.station.entries ≡ entries_seen (slots_seen narrow_kind s))
  kept h = let r = scan-kept s l (λ a b e. h a b (said-is ∙ e)) in (r.0, entries-are ∙ r.1)

-- the stream over the front of the target
pub stream-exported : (s t u : List ℕ) (n : ℕ) (xs : List Transaction) → length s ≡ store_size narrow_kind → length t ≡ target_size → KeepsRules narrow_kind s
    → xs ≡ committed_set s → n ≡ length (stream_of xs) → u ≡ written t 0 (stream_of xs) → (Ok n ≡ (export s t).answer) × (u ≡ (export s t).target)
unfolding exported_to written
stream-exported s t u n xs l m k q e f =
    let bs : List ℕ = stream_of (committed_set s) in
    let h = handed (export s t) _ (export-written s t l m k) in
    let z : 0 + length bs ≡ length bs = omega arith in
    let g : u ≡ written t 0 bs = f ∙ ap (λ (ys : List Transaction). written t 0 (stream_of ys)) q in
    (ap Ok (e ∙ ap (λ (ys : List Transaction). length (stream_of ys)) q) ∙ h.0, g ∙ ap (λ (x : ℕ). bs ++ drop x t) z ∙ h.1)
