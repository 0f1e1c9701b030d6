-- The test of a candidate (02 §1), of any entry against any reads: it gives none exactly when no read conflicts, else the lowest key of a
-- read that does.
use Prim.Native.Nat.{ℕ, ◌≤◌}
use mathlib.Core.Path.{◌≡◌, refl, sym, ap, subst, ◌∙◌}
use mathlib.Core.Logic.{⊎_elim}
use mathlib.Core.Bool.{true, false, true≢false}
use mathlib.Core.List.{List, map, Memᴰ}
use mathlib.Core.Option.{Option, some, none, Option-elim}
use lib.ListN.{get_or}
use native.Mathlib.Omega.{arith}
use Rattle.model.specs.declared.Read.{Read}
use Rattle.model.specs.Types.{Entry}
use Rattle.model.specs.Lists.{any, filter}
use Rattle.model.specs.Lives.{no_read, read_key}
use Rattle.model.specs.Reading.{conflicts_with, lowest_conflict, conflicts}
use Rattle.model.proofs.Tests.{bool_cases}
use Rattle.model.proofs.ListLaws.{any_at, any-none-of, get_or-mem, mem-get_or, kept-mem, kept_from, IsLeast, least-is}

module _ (e : Entry) (rs : List Read) where
  -- the entry conflicts with a read of key k, and with none of a lower key
  pub record ConflictsLowest (k : ℕ) : Type 0 where
    pub read : Read
    pub among : Memᴰ read rs
    pub key : read.key ≡ k
    pub conflict : conflicts_with e read ≡ true
    pub lowest : (r : Read) → Memᴰ r rs → conflicts_with e r ≡ true → k ≤ r.key

  -- what the test says: no read conflicts; or one of key k does, and none of a lower key
  abbrev pub ConflictsAs : Option ℕ → Type 0
  ConflictsAs none = (r : Read) → Memᴰ r rs → conflicts_with e r ≡ false
  ConflictsAs (some k) = ConflictsLowest k

  pub test-gives : (x : Option ℕ) → lowest_conflict e rs ≡ x → ConflictsAs x
  unfolding lowest_conflict
  test-gives x h = go x (subst (IsLeast (map read_key (filter (conflicts_with e) rs))) h (least-is (map read_key (filter (conflicts_with e) rs))))
    where
      go : (y : Option ℕ) → IsLeast (map read_key (filter (conflicts_with e) rs)) y → ConflictsAs y
      go none f = λ r m. ⊎_elim (λ t. absurd (f _ (kept-mem (conflicts_with e) read_key rs r m t))) (λ n. n) (bool_cases (conflicts_with e r))
      go (some k) (m, f) =
          let from = kept_from (conflicts_with e) read_key rs k m in
          record { read = from.0; among = from.1; key = sym from.3; conflict = from.2; lowest = λ r n t. f r.key (kept-mem (conflicts_with e) read_key rs r n t) }

  -- and it says nothing else
  pub test-is : (x : Option ℕ) → ConflictsAs x → lowest_conflict e rs ≡ x
  test-is x c = go x c (lowest_conflict e rs) refl
    where
      go : (x : Option ℕ) → ConflictsAs x → (y : Option ℕ) → lowest_conflict e rs ≡ y → lowest_conflict e rs ≡ x
      go none f none h = h
      go none f (some j) h = let t = test-gives (some j) h in absurd (true≢false (sym t.conflict ∙ f t.read t.among))
      go (some k) c none h = absurd (true≢false (sym c.conflict ∙ test-gives none h c.read c.among))
      go (some k) c (some j) h =
          let t = test-gives (some j) h in
          let u : j ≡ k = omega (arith, t.lowest c.read c.among c.conflict, c.key, c.lowest t.read t.among t.conflict, t.key) in
          h ∙ ap some u

  pub none-conflicts : lowest_conflict e rs ≡ none → conflicts e rs ≡ false
  unfolding conflicts Option-elim
  none-conflicts h = rw h

  pub some-conflicts : (k : ℕ) → lowest_conflict e rs ≡ some k → conflicts e rs ≡ true
  unfolding conflicts Option-elim
  some-conflicts k h = rw h

  -- so "conflicts with no read" is what it was when the test said yes or no, and every answer but nofit's key
  pub conflicts-any : conflicts e rs ≡ any (conflicts_with e) rs
  conflicts-any = go (lowest_conflict e rs) refl
    where
      go : (x : Option ℕ) → lowest_conflict e rs ≡ x → conflicts e rs ≡ any (conflicts_with e) rs
      go none h = none-conflicts h ∙ sym (any-none-of (conflicts_with e) rs no_read (λ i o. test-gives none h (get_or rs i no_read) (get_or-mem rs i no_read o)))
      go (some k) h =
          let t = test-gives (some k) h in
          let m = mem-get_or rs t.read no_read t.among in
          some-conflicts k h ∙ sym (any_at (conflicts_with e) rs no_read m.0 m.1 (ap (conflicts_with e) m.2 ∙ t.conflict))
