-- 02 §11: the cut rule of histories with imports. An import that is not refused starts one anew: what lasts of store and ledger holds of the store
-- that it makes, with its transactions standing and past.
use Prim.Native.Nat.{ℕ, ◌≤◌}
use mathlib.Core.Path.{◌≡◌, refl, sym, ap, subst, ◌∙◌}
use mathlib.Core.Logic.{inl, ⊎_elim}
use mathlib.Core.List.Memᴰ
use mathlib.Core.List.Permᴰ
use mathlib.Core.List.{List, [], ◌∷◌, map, Permᴰ, Memᴰ}
use mathlib.Core.Option.{Option, some, none-ne-some}
use lib.ListN.{length, take}
use native.Mathlib.Omega.{arith}
use Rattle.std.specs.Prelude.{Result, Ok, Err}
use Rattle.model.specs.Kinds.{narrow_kind, store_size}
use Rattle.model.specs.Ranges.{Every, IsByte}
use Rattle.model.specs.Scan.{scan}
use Rattle.model.proofs.KindLaws.{narrow-fits}
use Rattle.model.proofs.ScanLaws.{KeepsRules}
use Rattle.history.specs.Ledger.{Committed, draft_of}
use Rattle.history.specs.Histories.{World, begin}
use Rattle.history.specs.CutRule.{committed_found}
use Rattle.history.proofs.Invariant.{in_store, Recorded, Lasting}
use Rattle.history.proofs.Storing.{first-written}
use Rattle.history.proofs.Recovering.{cut-rule-of}
use Rattle.history.proofs.Theorem.{State, begin-state}
use Rattle.history.proofs.Moving.{scan-holds, one-slot, legs-keep}
use Rattle.resp.specs.declared.Refused.{Refused}
use Rattle.resp.specs.Streams.{Transaction, TransactionFits, CommittedSet}
use Rattle.resp.specs.Inverse.{transactions_in}
use Rattle.resp.specs.Exports.{committed_set, export}
use Rattle.resp.specs.Imports.{filled, Import, import}
use Rattle.resp.specs.Claims.{IsStore}
use Rattle.resp.proofs.FilledLaws.{filled-length, filled-rules, filled-set}
use Rattle.resp.proofs.ReadExactly.{read-exactly}
use Rattle.resp.proofs.ImportLaws.{done-store, imports as imported, taken-exactly}
use Rattle.resp.proofs.ExportRows.{export-done}
use Rattle.resp.proofs.SameSet.{same_set}
use Rattle.imported.specs.Imports.{committed_as, ledger_of, ledger_read, after_answer, Part, legs, imports, after_part, go_through, PartInRange, PartsInRange, CutRuleImported}
use Rattle.imported.proofs.InStore.{in-store-set}

-- ── what lasts ──
-- each has a clock and wrote a key
all-recorded : (xs : List Transaction) → Every TransactionFits xs → (j : Committed) → Memᴰ j (map committed_as xs) → Recorded j
unfolding committed_as
all-recorded [] f j m = absurd (Memᴰ.not-nil m)
all-recorded (x ∷ xs) f j m = ⊎_elim
    (λ e. subst Recorded (sym e) (let r = first-written x.writes f.0.some-write in (f.0.clock64, r.0, (r.1, r.2))))
    (λ m'. all-recorded xs f.1 j m')
    (Memᴰ.cases_cons m)

pub filled-lasts : (xs : List Transaction) → CommittedSet xs → length xs ≤ narrow_kind.slots → Lasting narrow_kind (filled xs) (ledger_of xs)
unfolding ledger_of draft_of
filled-lasts xs c few = record {
  core = record {
    fits = narrow-fits;
    size = filled-length xs c few;
    undamaged = λ d o e. (filled-rules xs c few).undamaged d o e;
    single = one-slot narrow_kind (filled xs) (filled-rules xs c few);
    found = subst (λ (ys : List Transaction). Permᴰ (in_store narrow_kind (filled xs)) (map committed_as ys)) (filled-set xs c few) (in-store-set (filled xs));
    kept = λ j m. m;
    dominated = λ j m. inl m;
    recorded = all-recorded xs c.fit;
  };
  sure = λ t p e. absurd (none-ne-some p e);
}

-- ── the history goes on ──
-- an import that is not refused: the committed set that it read, and the store that it made
pub record Told (bs : List ℕ) (m : Import) : Type 0 where
  pub transactions : List Transaction
  pub read : transactions_in bs ≡ some transactions
  pub set : CommittedSet transactions
  pub few : length transactions ≤ narrow_kind.slots
  pub makes : m.store ≡ filled transactions

pub import-told : (bs s : List ℕ) (n : ℕ) → (import bs s).answer ≡ Ok n → Told bs (import bs s)
import-told bs s n h =
    let l = done-store bs s n h in
    let k = (taken-exactly bs s l n).0 h in
    let r : transactions_in bs ≡ some k.0 = (read-exactly bs k.0).1 k.1 in
    let o : length k.0 ≤ narrow_kind.slots = omega (arith, k.2, k.3) in
    record { transactions = k.0; read = r; set = k.1.1; few = o; makes = ap (λ (m : Import). m.store) (imported bs s k.0 l r o) }

pub import-keeps : (bs s : List ℕ) (w : World) → State w → State (after_answer (import bs s).answer bs (import bs s).store w)
unfolding after_answer
import-keeps bs s w sw = go (import bs s).answer refl
  where
    go : (a : Result ℕ Refused) → (import bs s).answer ≡ a → State (after_answer a bs (import bs s).store w)
    go (Ok n) h =
        let r = import-told bs s n h in
        let xs = r.transactions in
        let l : Lasting narrow_kind (filled xs) (ledger_read (some xs)) = unfold ledger_read in filled-lasts xs r.set r.few in
        record {
          lasts = subst (λ (o : Option (List Transaction)). Lasting narrow_kind (import bs s).store (ledger_read o)) (sym r.read)
              (subst (λ (x : List ℕ). Lasting narrow_kind x (ledger_read (some xs))) (sym r.makes) l);
          runs = tt;
        }
    go (Err r) h = sw

pub part-keeps : (p : Part) (w : World) → PartInRange p → State w → State (after_part p w)
unfolding after_part
part-keeps (legs ls) w f sw = legs-keep ls w f sw
part-keeps (imports bs s) w f sw = import-keeps bs s w sw

pub parts-keep : (ps : List Part) (w : World) → PartsInRange ps → State w → State (go_through ps w)
unfolding go_through PartsInRange
parts-keep [] w f sw = sw
parts-keep (p ∷ ps) w f sw = parts-keep ps (after_part p w) f.1 (part-keeps p w f.0 sw)

pub cut-rule-imported : CutRuleImported
cut-rule-imported κ φ ps f = cut-rule-of _ _ _ (parts-keep ps (begin κ) f (begin-state κ φ)).lasts

-- ── export followed by import ──
-- what a scan finds: the committed set, in another order
abbrev pub scan_finds : List ℕ → List Committed
scan_finds s = committed_found narrow_kind s 0 (scan narrow_kind s).station.entries

found-set : (s : List ℕ) → length s ≡ store_size narrow_kind → KeepsRules narrow_kind s → Permᴰ (scan_finds s) (map committed_as (committed_set s))
found-set s l k = rw (scan-holds narrow_kind s l k) (in-store-set s)

-- "Export followed by import gives the same committed set.": what a scan finds, ids, keys and values, by the stores; one in another order
module _ (s t : List ℕ) (n : ℕ) (b : Every IsByte s) (h : (export s t).answer ≡ Ok n) (s₂ : List ℕ) (l : IsStore s₂) where
  abbrev stream : List ℕ
  stream = take n (export s t).target

  abbrev target : List ℕ
  target = (import stream s₂).store

  pub same-found : Permᴰ (scan_finds target) (scan_finds s)
  same-found =
      let same = same_set s t n b h s₂ l in
      let x = export-done s t n h in
      let r = import-told stream s₂ (length (committed_set s)) same.0 in
      let ys = r.transactions in
      let size : length target ≡ store_size narrow_kind = ap length r.makes ∙ filled-length ys r.set r.few in
      let rules : KeepsRules narrow_kind target = subst (KeepsRules narrow_kind) (sym r.makes) (filled-rules ys r.set r.few) in
      let found = subst (λ (zs : List Transaction). Permᴰ (scan_finds target) (map committed_as zs)) same.1 (found-set target size rules) in
      Permᴰ.trans found (Permᴰ.symm (found-set s x.store_long x.keeps))
