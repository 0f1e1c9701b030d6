-- A read beside an earlier one of its transaction: together they break the Atomic Readset. That the earlier ones stand together is known already, so
-- that all pairs are tested by these, and none is where the read is one of the earlier ones.
use Prim.Native.Nat.{ℕ}
use mathlib.Core.Path.{◌≡◌, refl, sym, ◌∙◌}
use mathlib.Core.Logic.{◌⊎◌, inl, inr, ⊎_elim}
use mathlib.Core.Bool.{Bool, true, false, not, true≢false}
use mathlib.Core.List.Memᴰ
use mathlib.Core.List.{List, ◌∷◌, Memᴰ}
use lib.ListN.{get_or}
use Rattle.model.specs.declared.Id.{Id}
use Rattle.model.specs.declared.Read.{Read}
use Rattle.model.specs.Lists.{◌and◌, ◌or◌, all, any}
use Rattle.model.specs.Ids.{older}
use Rattle.model.proofs.Tests.{and_left, and_right, and-none-left, and-none-right, not-of-true, or_cases, or_left, or_right, not_of_false, bool_cases}
use Rattle.model.proofs.ListLaws.{all_of, any_none, get_or-mem}
use Rattle.model.proofs.IdLaws.{older-irrefl}
use Rattle.shoplog.specs.Lines.{Line}
use Rattle.shoplog.specs.Verdicts.{has_written, is_atomic}
use Rattle.shoplog.proofs.GatheredLaws.{any-one}
use Rattle.shoplog.proofs.FineLaws.{atomic-reads}

-- a read of key k in version i, and an earlier one
unfoldable pub apart : List Line → ℕ → Id → Read → Bool
apart ls k i r = (has_written ls i.txn r.key and older r.id i) or (has_written ls r.id.txn k and older i r.id)

-- two reads in either order: Definition 1
abbrev pub Atomic : List Line → List Read → Type 0
Atomic ls rs = (r q : Read) → Memᴰ r rs → Memᴰ q rs → has_written ls r.id.txn q.key ≡ true → older q.id r.id ≡ false

pub not-both : (x y : Bool) → (x ≡ true → y ≡ false) → (x and y) ≡ false
not-both x y f = ⊎_elim (λ e. and-none-right x y (f e)) (λ e. and-none-left x y e) (bool_cases x)

module _ (ls : List Line) (k : ℕ) (i : Id) (rs : List Read) where
  abbrev new : Read
  new = record { key = k; id = i }

  -- one of them is apart from the new one
  some-apart : any (apart ls k i) rs ≡ true → not (is_atomic ls (record { key = k; id = i } ∷ rs)) ≡ true
  unfolding apart
  some-apart h = let x = any-one (apart ls k i) rs h in
      ⊎_elim
      (λ f. broken (λ a. true≢false (sym (and_right _ _ f) ∙ atomic-reads ls (new ∷ rs) a new x.0 (Memᴰ.head refl) (Memᴰ.tail x.1) (and_left _ _ f))))
      (λ f. broken (λ a. true≢false (sym (and_right _ _ f) ∙ atomic-reads ls (new ∷ rs) a x.0 new (Memᴰ.tail x.1) (Memᴰ.head refl) (and_left _ _ f))))
      (or_cases _ _ x.2)
    where
      broken : (is_atomic ls (new ∷ rs) ≡ true → ⊥) → not (is_atomic ls (new ∷ rs)) ≡ true
      broken f = ⊎_elim (λ a. absurd (f a)) (λ a. not_of_false _ a) (bool_cases (is_atomic ls (new ∷ rs)))

  -- no pair breaks it
  all-together : ((r q : Read) → (r ≡ new) ⊎ Memᴰ r rs → (q ≡ new) ⊎ Memᴰ q rs → (has_written ls r.id.txn q.key and older q.id r.id) ≡ false)
      → is_atomic ls (new ∷ rs) ≡ true
  unfolding is_atomic
  all-together f =
      all_of (λ (r : Read). all (λ (q : Read). not (has_written ls r.id.txn q.key and older q.id r.id)) (new ∷ rs)) (new ∷ rs) new λ j o.
      all_of (λ (q : Read). not (has_written ls (get_or (new ∷ rs) j new).id.txn q.key and older q.id (get_or (new ∷ rs) j new).id)) (new ∷ rs) new λ b u.
      not_of_false _ (f (get_or (new ∷ rs) j new) (get_or (new ∷ rs) b new) (Memᴰ.cases_cons (get_or-mem (new ∷ rs) j new o)) (Memᴰ.cases_cons (get_or-mem (new ∷ rs) b new u)))

  module _ (old : Atomic ls rs) where
    -- none is apart: they stand together with it
    pair : any (apart ls k i) rs ≡ false → (r q : Read) → (r ≡ new) ⊎ Memᴰ r rs → (q ≡ new) ⊎ Memᴰ q rs
        → (has_written ls r.id.txn q.key and older q.id r.id) ≡ false
    unfolding apart
    pair h r q (inl e) (inl f) = rw (e, f) (and-none-right _ _ (older-irrefl i))
    pair h r q (inl e) (inr m) = rw e (or_left _ _ (any_none (apart ls k i) rs h q m))
    pair h r q (inr m) (inl f) = rw f (or_right _ _ (any_none (apart ls k i) rs h r m))
    pair h r q (inr m) (inr w) = not-both _ _ (old r q m w)

    pub apart-same : any (apart ls k i) rs ≡ not (is_atomic ls (record { key = k; id = i } ∷ rs))
    apart-same = ⊎_elim (λ h. h ∙ sym (some-apart h)) (λ h. h ∙ sym (not-of-true _ (all-together (pair h)))) (bool_cases (any (apart ls k i) rs))

    -- it is one of them
    pub atomic-again : Memᴰ (record { key = k; id = i }) rs → is_atomic ls (record { key = k; id = i } ∷ rs) ≡ true
    atomic-again m = all-together (λ r q v w. not-both _ _ (old r q (there r v) (there q w)))
      where
        there : (r : Read) → (r ≡ new) ⊎ Memᴰ r rs → Memᴰ r rs
        there r (inl e) = rw e m
        there r (inr w) = w
