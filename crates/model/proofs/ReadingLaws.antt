-- Algorithm 1, over any list of entries and any list of reads: what is chosen, the key that nofit names, the paper's Theorem 1 and Corollary
-- 1.1.
use Prim.Native.Nat.{ℕ, ◌<◌}
use mathlib.Core.Path.{◌≡◌, refl, sym, ap, subst, ◌∙◌}
use mathlib.Core.Logic.{◌⊎◌, inl, inr, ⊎_elim}
use mathlib.Core.Bool.{Bool, true, false, true≢false}
use mathlib.Core.List.Memᴰ
use mathlib.Core.List.{List, ◌∷◌, Memᴰ}
use mathlib.Core.Option
use mathlib.Core.Option.{Option, some, none, Option-elim}
use lib.ListN.{length, get_or}
use native.Mathlib.Omega.{arith}
use borrow.Author.Tests.{not-true}
use Rattle.model.specs.declared.Id.{Id}
use Rattle.model.specs.declared.Read.{Read}
use Rattle.model.specs.Types.{Entry}
use Rattle.model.specs.Lists.{◌and◌, any}
use Rattle.model.specs.Ids.{older, same_id, no_id}
use Rattle.model.specs.Entries.{no_entry, wrote, wrote_as}
use Rattle.model.specs.Reading.{lower_bound, conflicts_with, lowest_conflict, newest_writer, key_in_the_way, passes, absent, nofit, version, chosen, choose, Atomic}
use Rattle.model.specs.Orders.{newest}
use Rattle.model.proofs.Tests.{and_left, and_right, and_intro, and_second, not_of_false}
use Rattle.model.proofs.ListLaws.{any-finds, any_at, any_none, kept-mem, kept_from}
use Rattle.model.proofs.IdLaws.{older-irrefl, not-older-trans, older-total, same_id_lem, id_same, greatest-above, greatest-one, none-older}
use Rattle.model.proofs.OrderLaws.{IsNewest, newest-is, newest-none}
use Rattle.model.proofs.ConflictLaws.{ConflictsLowest, test-gives, none-conflicts, conflicts-any}

-- ── what is chosen ──
chosen-some : (b : Bool) (x : Option ℕ) (y d : ℕ) → chosen b x y ≡ version d → x ≡ some d
unfolding chosen
chosen-some b (some c) y d h = ap some (cc)
chosen-some true none y d h = let z : ◌≡◌ {A = ℕ} 0 1 = cc in absurd (omega arith)
chosen-some false none y d h = let z : ◌≡◌ {A = ℕ} 0 1 = cc in absurd (omega arith)

chosen-nofit : (b : Bool) (x : Option ℕ) (y n : ℕ) → chosen b x y ≡ nofit n → (b ≡ true) × (x ≡ none) × (y ≡ n)
unfolding chosen
chosen-nofit b (some c) y n h = let z : ◌≡◌ {A = ℕ} 0 1 = cc in absurd (omega arith)
chosen-nofit true none y n h = (refl, refl, cc)
chosen-nofit false none y n h = let z : ◌≡◌ {A = ℕ} 0 1 = cc in absurd (omega arith)

chosen-absent : (b : Bool) (x : Option ℕ) (y : ℕ) → chosen b x y ≡ absent → b ≡ false
unfolding chosen
chosen-absent b (some c) y h = let z : ◌≡◌ {A = ℕ} 0 1 = cc in absurd (omega arith)
chosen-absent true none y h = let z : ◌≡◌ {A = ℕ} 0 1 = cc in absurd (omega arith)
chosen-absent false none y h = refl

module _ (es : List Entry) (rs : List Read) (k : ℕ) where
  -- a version: the newest entry that wrote the key, is not below the bound and conflicts with no read
  pub version-is : (d : ℕ) → choose es rs k ≡ version d → IsNewest (passes es rs k) es d
  unfolding choose
  version-is d h = newest-is (passes es rs k) es d (chosen-some _ _ _ d h)

  -- nofit: some entry wrote the key, and none passes
  pub nofit-is : (n : ℕ) → choose es rs k ≡ nofit n → (any (λ e. wrote e k) es ≡ true) × ((j : ℕ) → j < length es → passes es rs k (get_or es j no_entry) ≡ false)
  unfolding choose
  nofit-is n h = let r = chosen-nofit _ _ _ n h in (r.0, newest-none (passes es rs k) es r.1)

  -- none: no entry wrote the key
  pub absent-is : choose es rs k ≡ absent → any (λ e. wrote e k) es ≡ false
  unfolding choose
  absent-is h = chosen-absent _ _ _ h

  module _ (e : Entry) (h : passes es rs k e ≡ true) where
    pub passes-wrote : wrote e k ≡ true
    unfolding passes
    passes-wrote = and_left _ _ (and_left _ _ h)

    -- it is not older than a read whose transaction wrote the key
    pub not-below : (r : Read) → Memᴰ r rs → wrote_as es r.id k ≡ true → older e.id r.id ≡ false
    unfolding passes lower_bound
    not-below r m w =
        not-older-trans e.id (lower_bound es rs k) r.id (not-true _ (and_right _ _ (and_left _ _ h)))
        (greatest-above _ r.id (kept-mem (λ x. wrote_as es x.id k) (λ (x : Read). x.id) rs r m w))

    -- and no read of a key that it wrote is older than it
    pub no-conflict : (r : Read) → Memᴰ r rs → wrote e r.key ≡ true → older r.id e.id ≡ false
    unfolding passes conflicts_with
    no-conflict r m w = and_second _ _ (any_none (conflicts_with e) rs (sym (conflicts-any e rs) ∙ not-true _ (and_right _ _ h)) r m) w

-- ── an id's transaction ──
-- no two entries that wrote something have one id
abbrev pub IdsDiffer : List Entry → Type 0
IdsDiffer es = (a b j k : ℕ) → a < length es → b < length es → wrote (get_or es a no_entry) j ≡ true → wrote (get_or es b no_entry) k ≡ true
    → (get_or es a no_entry).id ≡ (get_or es b no_entry).id → a ≡ b

pub wrote_as_lem : (es : List Entry) (i : Id) (k : ℕ) → wrote_as es i k ≡ true → (d : ℕ) × (d < length es) × ((get_or es d no_entry).id ≡ i) × (wrote (get_or es d no_entry) k ≡ true)
unfolding wrote_as
wrote_as_lem es i k h = let r = any-finds (λ e. same_id e.id i and wrote e k) es no_entry h in (r.0, r.1, same_id_lem _ _ (and_left _ _ r.2), and_right _ _ r.2)

pub as-wrote : (es : List Entry) (k d : ℕ) → d < length es → wrote (get_or es d no_entry) k ≡ true → wrote_as es (get_or es d no_entry).id k ≡ true
unfolding wrote_as
as-wrote es k d o w = any_at (λ e. same_id e.id (get_or es d no_entry).id and wrote e k) es no_entry d o (and_intro _ _ (id_same (get_or es d no_entry).id (get_or es d no_entry).id refl) w)

-- ── the key that nofit names (02 §1) ──
-- the newest entry that wrote key k conflicts, on key n and on none lower
pub record InTheWay (es : List Entry) (rs : List Read) (k n : ℕ) : Type 0 where
  pub slot : ℕ
  pub newest : IsNewest (λ e. wrote e k) es slot
  pub conflict : ConflictsLowest (get_or es slot no_entry) rs n

module _ (es : List Entry) (rs : List Read) (k : ℕ) where
  -- the bound is no_id, or the id of a read whose transaction wrote the key
  pub bound-is : (lower_bound es rs k ≡ no_id) ⊎ ((r : Read) × Memᴰ r rs × (wrote_as es r.id k ≡ true) × (lower_bound es rs k ≡ r.id))
  unfolding lower_bound
  bound-is = ⊎_elim (λ e. inl e) (λ m. inr (kept_from (λ r. wrote_as es r.id k) (λ (r : Read). r.id) rs _ m)) (greatest-one _)

  -- the newest that wrote the key is not below it: what was read and wrote the key is among the entries, and not newer
  newest-not-below : (d : ℕ) → IsNewest (λ e. wrote e k) es d → older (get_or es d no_entry).id (lower_bound es rs k) ≡ false
  newest-not-below d n = ⊎_elim
      (λ e. rw e (none-older (get_or es d no_entry).id))
      (λ b. let w = wrote_as_lem es b.0.id k b.2 in rw b.3 (subst (λ (i : Id). older (get_or es d no_entry).id i ≡ false) w.2 (n.first w.0 w.1 w.3)))
      bound-is

  -- "Prove that a sound station always has one": every list of entries has, whatever was read. (A read whose entry is not among them sets no bound.)
  pub nofit-has-key : (n : ℕ) → choose es rs k ≡ nofit n → InTheWay es rs k n
  unfolding choose key_in_the_way newest_writer passes Option-elim
  nofit-has-key n h = let r = chosen-nofit _ _ _ n h in writer r.2 (newest (λ e. wrote e k) es) refl
    where
      writer : Option.get_or (lowest_conflict (Option-elim (newest (λ e. wrote e k) es) no_entry (λ d. get_or es d no_entry)) rs) 0 ≡ n
          → (x : Option ℕ) → newest (λ e. wrote e k) es ≡ x → InTheWay es rs k n
      writer q none e = let f = any-finds (λ e. wrote e k) es no_entry (nofit-is es rs k n h).0 in absurd (true≢false (sym f.2 ∙ newest-none (λ e. wrote e k) es e f.0 f.1))
      writer q (some d) e = test (rw e at q) (newest-is (λ e. wrote e k) es d e) (lowest_conflict (get_or es d no_entry) rs) refl
        where
          test : Option.get_or (lowest_conflict (get_or es d no_entry) rs) 0 ≡ n → IsNewest (λ e. wrote e k) es d → (x : Option ℕ) → lowest_conflict (get_or es d no_entry) rs ≡ x → InTheWay es rs k n
          test p w (some j) t = record { slot = d; newest = w; conflict = subst (ConflictsLowest (get_or es d no_entry) rs) (rw t at p) (test-gives (get_or es d no_entry) rs (some j) t) }
          test p w none t = absurd (true≢false (sym pass ∙ (nofit-is es rs k n h).1 d w.low))
            where
              pass : passes es rs k (get_or es d no_entry) ≡ true
              pass = and_intro _ _ (and_intro _ _ w.passes (not_of_false _ (newest-not-below d w))) (not_of_false _ (none-conflicts (get_or es d no_entry) rs t))

-- ── the paper's theorem and corollary ──
module _ (es : List Entry) (rs : List Read) (k d : ℕ) (h : choose es rs k ≡ version d) where
  abbrev e : Entry
  e = get_or es d no_entry

  is : IsNewest (passes es rs k) es d
  is = version-is es rs k d h

  abbrev new : Read
  new = record { key = k; id = e.id }

  -- Theorem 1: with the version chosen an Atomic Readset stays one
  pub theorem-1 : IdsDiffer es → Atomic es rs → Atomic es (new ∷ rs)
  theorem-1 differ atomic r q mr mq w = go (Memᴰ.cases_cons mr) (Memᴰ.cases_cons mq)
    where
      own_key : (x : ℕ) → wrote_as es e.id x ≡ true → wrote e x ≡ true
      own_key x v =
          let f = wrote_as_lem es e.id x v in
          subst (λ (c : ℕ). wrote (get_or es c no_entry) x ≡ true) (differ f.0 d x k f.1 is.low f.3 (passes-wrote es rs k e is.passes) f.2) f.3

      go : (r ≡ new) ⊎ Memᴰ r rs → (q ≡ new) ⊎ Memᴰ q rs → older q.id r.id ≡ false
      go (inl x) (inl y) = rw (x, y) (older-irrefl e.id)
      go (inl x) (inr y) = rw x (no-conflict es rs k e is.passes q y (own_key q.key (rw x at w)))
      go (inr x) (inl y) = rw y (not-below es rs k e is.passes r x (rw y at w))
      go (inr x) (inr y) = atomic r q x y w

  -- Corollary 1.1: a key that was read is read again at the same version
  pub corollary-1-1 : (r : Read) → Memᴰ r rs → r.key ≡ k → wrote_as es r.id k ≡ true → r.id ≡ e.id
  corollary-1-1 r m ek w =
      older-total r.id e.id (no-conflict es rs k e is.passes r m (rw ek (passes-wrote es rs k e is.passes))) (not-below es rs k e is.passes r m w)
