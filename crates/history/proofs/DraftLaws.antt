-- Drafts while one live transaction changes.
use Prim.Native.Nat.{ℕ, ◌<◌}
use mathlib.Core.Path.{◌≡◌, refl, sym, ap, subst, ◌∙◌, fun_ext}
use mathlib.Core.Logic.{◌≢◌, ◌⊎◌, inl, inr, ⊎_elim}
use mathlib.Core.Bool.{Bool, true, false, cond, false≢true}
use mathlib.Core.List.Memᴰ
use mathlib.Core.List.{List, [], ◌∷◌, Memᴰ}
use mathlib.Core.Option.{Option, some, none, none-ne-some, some-injective}
use lib.Dec.{eqb}
use lib.ListN.{length}
use native.Mathlib.Decide.{ℕ_discrete}
use borrow.Author.Tests.{eqb-true, eqb-false, eq-eqb, ne_eqb}
use Rattle.model.specs.Types.{Live, Station}
use Rattle.model.specs.Lives.{no_live}
use Rattle.model.specs.Stations.{live_at, set_live, is_live, place_of}
use Rattle.model.specs.Sound.{sound}
use Rattle.model.specs.Reading.{own}
use Rattle.model.proofs.StationLaws.{place-hit, set_live-at, live_at-same, live_at-other}
use Rattle.model.proofs.SoundFacts.{one_place, no_other}
use Rattle.history.specs.Ledger.{Draft, draft_of, without, revised, at}
use Rattle.history.specs.Matches.{Matches, Correspond}
use Rattle.history.proofs.Invariant.{OneDraft}

pub some_inj : {A : Type 0} {x y : A} → some x ≡ some y → x ≡ y
some_inj e = some-injective _ _ e

cond_same : {A : Type 0} (b : Bool) (x : A) → x ≡ cond b x x
cond_same true x = refl
cond_same false x = refl

-- a number that is one of two that differ is not the other
apart : (t n u : ℕ) → eqb t n ≡ false → eqb u n ≡ true → eqb u t ≡ true → ⊥
apart t n u h a b = eqb-false t n h (sym (eqb-true u t b) ∙ eqb-true u n a)

module _ {A : Type 0} (n : ℕ) (x : A) (f : ℕ → A) where
  pub at_same : at n x f n ≡ x
  unfolding at
  at_same = simp (eq-eqb n n refl)

  pub at_other : (m : ℕ) → m ≢ n → at n x f m ≡ f m
  unfolding at
  at_other m h = simp (ne_eqb m n h)

-- two tests that do not both hold may change places; one that holds with the other hides it
pub cond-swap : {A : Type 0} (p q : Bool) (x y z : A) → (p ≡ true → q ≡ true → ⊥) → cond p x (cond q y z) ≡ cond q y (cond p x z)
cond-swap true true x y z n = absurd (n refl refl)
cond-swap true false x y z n = refl
cond-swap false true x y z n = refl
cond-swap false false x y z n = refl

pub cond-twice : {A : Type 0} (p q : Bool) (x y z : A) → p ≡ q → cond p x (cond q y z) ≡ cond p x z
cond-twice true q x y z e = refl
cond-twice false true x y z e = absurd (false≢true e)
cond-twice false false x y z e = refl

-- ── the list of drafts, by its accessor ──
unfoldable pub mapped : (Draft → Draft) → Option Draft → Option Draft
mapped f none = none
mapped f (some p) = some (f p)

pub draft-txn : (t : ℕ) (ps : List Draft) (p : Draft) → draft_of t ps ≡ some p → p.txn ≡ t
unfolding draft_of
draft-txn t [] p e = absurd (none-ne-some p e)
draft-txn t (q ∷ ps) p e = go (eqb t q.txn) refl (draft-txn t ps p)
  where
    go : (x : Bool) → eqb t q.txn ≡ x → (draft_of t ps ≡ some p → p.txn ≡ t) → p.txn ≡ t
    go true h ih = let r : q ≡ p = some_inj (rw h at e) in sym (ap (λ (y : Draft). y.txn) r) ∙ sym (eqb-true t q.txn h)
    go false h ih = ih (rw h at e)

-- torn out
pub draft-without : (t : ℕ) (ps : List Draft) (u : ℕ) → draft_of u (without t ps) ≡ at t none (λ x. draft_of x ps) u
unfolding draft_of without at
draft-without t [] u = cond_same (eqb u t) none
draft-without t (p ∷ ps) u = go (eqb t p.txn) refl (draft-without t ps u)
  where
    go : (x : Bool) → eqb t p.txn ≡ x → draft_of u (without t ps) ≡ at t none (λ y. draft_of y ps) u
        → draft_of u (cond (eqb t p.txn) (without t ps) (p ∷ without t ps)) ≡ at t none (λ y. draft_of y (p ∷ ps)) u
    go true h ih = rw h (ih ∙ sym (cond-twice (eqb u t) (eqb u p.txn) none (some p) (draft_of u ps) (ap (eqb u) (eqb-true t p.txn h))))
    go false h ih = rw h (rw ih (cond-swap (eqb u p.txn) (eqb u t) (some p) none (draft_of u ps) (apart t p.txn u h)))

-- a new one in its place
pub draft-new : (p : Draft) (ps : List Draft) (u : ℕ) → draft_of u (p ∷ without p.txn ps) ≡ at p.txn (some p) (λ x. draft_of x ps) u
unfolding draft_of at
draft-new p ps u = rw (draft-without p.txn ps u) (cond-twice (eqb u p.txn) (eqb u p.txn) (some p) none (draft_of u ps) refl)

-- one revised
pub draft-revised : (t : ℕ) (g : Draft → Draft) → ((p : Draft) → (g p).txn ≡ p.txn) → (ps : List Draft) (u : ℕ) → draft_of u (revised t g ps) ≡ at t (mapped g (draft_of t ps)) (λ x. draft_of x ps) u
unfolding draft_of revised at mapped
draft-revised t g k [] u = cond_same (eqb u t) none
draft-revised t g k (p ∷ ps) u = go (eqb t p.txn) refl (draft-revised t g k ps u)
  where
    go : (x : Bool) → eqb t p.txn ≡ x → draft_of u (revised t g ps) ≡ at t (mapped g (draft_of t ps)) (λ y. draft_of y ps) u
        → draft_of u (cond (eqb t p.txn) (g p) p ∷ revised t g ps) ≡ at t (mapped g (cond (eqb t p.txn) (some p) (draft_of t ps))) (λ y. draft_of y (p ∷ ps)) u
    go true h ih = rw (h, ih) (both (eqb u (g p).txn) (eqb u t) (eqb u p.txn) (ap (eqb u) (k p ∙ e)) (ap (eqb u) (sym e)))
      where
        e : p.txn ≡ t
        e = sym (eqb-true t p.txn h)

        both : (x y z : Bool) → x ≡ y → y ≡ z → cond x (some (g p)) (cond y (mapped g (draft_of t ps)) (draft_of u ps)) ≡ cond y (some (g p)) (cond z (some p) (draft_of u ps))
        both x y z a b = rw (a, ← b) (cond-twice y y (some (g p)) _ (draft_of u ps) refl ∙ sym (cond-twice y y (some (g p)) (some p) (draft_of u ps) refl))
    go false h ih = rw (h, ih) (cond-swap (eqb u p.txn) (eqb u t) (some p) (mapped g (draft_of t ps)) (draft_of u ps) (apart t p.txn u h))

-- a draft of the revised ones was one before
pub was-draft : (f : Draft → Draft) (x : Option Draft) (p : Draft) → mapped f x ≡ some p → (q : Draft) × (x ≡ some q) × (p ≡ f q)
unfolding mapped
was-draft f none p e = absurd (none-ne-some p e)
was-draft f (some q) p e = (q, refl, sym (some_inj e))

-- ── no transaction has two ──
pub draft-mem : (t : ℕ) (ps : List Draft) (p : Draft) → draft_of t ps ≡ some p → Memᴰ p ps
unfolding draft_of
draft-mem t [] p e = absurd (none-ne-some p e)
draft-mem t (q ∷ ps) p e = go (eqb t q.txn) refl (draft-mem t ps p)
  where
    go : (x : Bool) → eqb t q.txn ≡ x → (draft_of t ps ≡ some p → Memᴰ p ps) → Memᴰ p (q ∷ ps)
    go true h ih = let r : q ≡ p = some_inj (rw h at e) in Memᴰ.head (sym r)
    go false h ih = Memᴰ.tail (ih (rw h at e))

without-mem : (t : ℕ) (ps : List Draft) (p : Draft) → Memᴰ p (without t ps) → Memᴰ p ps × (p.txn ≢ t)
unfolding without
without-mem t [] p m = absurd (Memᴰ.not-nil m)
without-mem t (q ∷ ps) p m = go (eqb t q.txn) refl (without-mem t ps p)
  where
    go : (x : Bool) → eqb t q.txn ≡ x → (Memᴰ p (without t ps) → Memᴰ p ps × (p.txn ≢ t)) → Memᴰ p (q ∷ ps) × (p.txn ≢ t)
    go true h ih = let r = ih (rw h at m) in (Memᴰ.tail r.0, r.1)
    go false h ih = ⊎_elim (λ e. (Memᴰ.head e, λ y. eqb-false t q.txn h (sym y ∙ ap (λ (x : Draft). x.txn) e))) (λ x. let r = ih x in (Memᴰ.tail r.0, r.1)) (Memᴰ.cases_cons (rw h at m))

revised-mem : (t : ℕ) (g : Draft → Draft) (ps : List Draft) (p : Draft) → Memᴰ p (revised t g ps) → (Memᴰ p ps × (p.txn ≢ t)) ⊎ ((q : Draft) × Memᴰ q ps × (q.txn ≡ t) × (p ≡ g q))
unfolding revised
revised-mem t g [] p m = absurd (Memᴰ.not-nil m)
revised-mem t g (q ∷ ps) p m = ⊎_elim (λ e. go (eqb t q.txn) refl e) (λ x. ⊎_elim (λ y. inl (Memᴰ.tail y.0, y.1)) (λ y. inr (y.0, Memᴰ.tail y.1, y.2, y.3)) (revised-mem t g ps p x)) (Memᴰ.cases_cons m)
  where
    go : (x : Bool) → eqb t q.txn ≡ x → p ≡ cond (eqb t q.txn) (g q) q → (Memᴰ p (q ∷ ps) × (p.txn ≢ t)) ⊎ ((u : Draft) × Memᴰ u (q ∷ ps) × (u.txn ≡ t) × (p ≡ g u))
    go true h e = inr (q, Memᴰ.head refl, sym (eqb-true t q.txn h), rw h at e)
    go false h e = let r : p ≡ q = rw h at e in inl (Memᴰ.head r, λ y. eqb-false t q.txn h (sym y ∙ ap (λ (x : Draft). x.txn) r))

pub once-without : (t : ℕ) (ps : List Draft) → OneDraft ps → OneDraft (without t ps)
once-without t ps f p m = let r = without-mem t ps p m in draft-without t ps p.txn ∙ (at_other t none (λ x. draft_of x ps) p.txn r.1 ∙ f p r.0)

pub once-new : (p : Draft) (ps : List Draft) → OneDraft ps → OneDraft (p ∷ without p.txn ps)
once-new p ps f q m = draft-new p ps q.txn ∙ ⊎_elim
    (λ e. ap (λ (x : Draft). at p.txn (some p) (λ y. draft_of y ps) x.txn) e ∙ (at_same p.txn (some p) (λ x. draft_of x ps) ∙ ap some (sym e)))
    (λ x. let r = without-mem p.txn ps q x in at_other p.txn (some p) (λ y. draft_of y ps) q.txn r.1 ∙ f q r.0) (Memᴰ.cases_cons m)

pub once-revised : (t : ℕ) (g : Draft → Draft) → ((p : Draft) → (g p).txn ≡ p.txn) → (ps : List Draft) → OneDraft ps → OneDraft (revised t g ps)
unfolding mapped
once-revised t g k ps f p m = draft-revised t g k ps p.txn ∙ go (revised-mem t g ps p m)
  where
    go : (Memᴰ p ps × (p.txn ≢ t)) ⊎ ((q : Draft) × Memᴰ q ps × (q.txn ≡ t) × (p ≡ g q)) → at t (mapped g (draft_of t ps)) (λ x. draft_of x ps) p.txn ≡ some p
    go (inl r) = at_other t _ (λ x. draft_of x ps) p.txn r.1 ∙ f p r.0
    go (inr r) =
        ap (at t (mapped g (draft_of t ps)) (λ x. draft_of x ps)) (ap (λ (x : Draft). x.txn) r.3 ∙ (k r.0 ∙ r.2))
        ∙ (at_same t _ (λ x. draft_of x ps) ∙ (ap (mapped g) (ap (λ (x : ℕ). draft_of x ps) (sym r.2) ∙ f r.0 r.1) ∙ ap some (sym r.3)))

-- drafts that are the same, one by one
pub drafts-as : (st : Station) (f g : ℕ → Option Draft) → ((u : ℕ) → g u ≡ f u) → Correspond st f → Correspond st g
drafts-as st f g e co = subst (Correspond st) (sym (fun_ext e)) co

-- the draft of a live transaction
pub draft-of : (st : Station) (f : ℕ → Option Draft) → Correspond st f → (t i : ℕ) → (live_at st i).txn ≡ t → t ≢ 0 → (p : Draft) × (f t ≡ some p)
draft-of st f co t i e n = subst (λ (u : ℕ). (p : Draft) × (f u ≡ some p)) e (co.drafted i (λ q. n (sym e ∙ q)))

pub matches-at : (st : Station) (f : ℕ → Option Draft) → sound st ≡ true → Correspond st f → (t : ℕ) → is_live t st ≡ true → (p : Draft) → f t ≡ some p → Matches p (live_at st (place_of t st))
matches-at st f h co t z p e =
    let q = co.live t p e in
    subst (λ (k : ℕ). Matches p (live_at st k)) (one_place st h q.1 (place_of t st) (q.2 ∙ sym (place-hit st t z).1) (λ y. q.0 (sym q.2 ∙ y))) q.3

-- place i, which was unused or t's, is replaced, and t's draft with it
module _ (st : Station) (f : ℕ → Option Draft) (co : Correspond st f) (t i : ℕ) (l : Live) (x : Option Draft) (o : i < length st.live)
    (own : (live_at st i).txn ≢ 0 → (live_at st i).txn ≡ t)
    (others : (j : ℕ) → j ≢ i → (live_at st j).txn ≡ t → (live_at st j).txn ≢ 0 → ⊥) where
  pub drafts-set : ((p : Draft) → x ≡ some p → (t ≢ 0) × (l.txn ≡ t) × Matches p l) → (l.txn ≢ 0 → (l.txn ≡ t) × (p : Draft) × (x ≡ some p))
      → Correspond (set_live st i l) (at t x f)
  drafts-set mine new = record {
    live = λ u p e. go u p e (ℕ_discrete u t);
    drafted = set_live-at st i l (λ j y. y.txn ≢ 0 → (p : Draft) × (at t x f y.txn ≡ some p)) o
        (λ n. let r = new n in (r.1, ap (at t x f) r.0 ∙ (at_same t x f ∙ r.2)))
        (λ j nj nz. rw (at_other t x f (live_at st j).txn (λ e. others j nj e nz)) (co.drafted j nz));
  }
    where
      mine-at : (p : Draft) → x ≡ some p → (t ≢ 0) × (k : ℕ) × ((live_at (set_live st i l) k).txn ≡ t) × Matches p (live_at (set_live st i l) k)
      mine-at p e =
          let r = mine p e in
          (r.0, i, ap (λ (y : Live). y.txn) (live_at-same st i l o) ∙ r.1, subst (Matches p) (sym (live_at-same st i l o)) r.2)

      moved : (u : ℕ) (p : Draft) → u ≢ t → (u ≢ 0) × (k : ℕ) × ((live_at st k).txn ≡ u) × Matches p (live_at st k)
          → (u ≢ 0) × (k : ℕ) × ((live_at (set_live st i l) k).txn ≡ u) × Matches p (live_at (set_live st i l) k)
      moved u p n r =
          let m : r.1 ≢ i = (λ z. n (sym r.2 ∙ (ap (λ (k : ℕ). (live_at st k).txn) z ∙ own (λ y. r.0 (sym r.2 ∙ (ap (λ (k : ℕ). (live_at st k).txn) z ∙ y)))))) in
          let q : live_at st r.1 ≡ live_at (set_live st i l) r.1 = sym (live_at-other st i l r.1 m) in
          (r.0, r.1, sym (ap (λ (y : Live). y.txn) q) ∙ r.2, subst (Matches p) q r.3)

      go : (u : ℕ) (p : Draft) → at t x f u ≡ some p → Dec (u ≡ t) → (u ≢ 0) × (k : ℕ) × ((live_at (set_live st i l) k).txn ≡ u) × Matches p (live_at (set_live st i l) k)
      go u p e (yes z) =
          subst (λ (y : ℕ). (y ≢ 0) × (k : ℕ) × ((live_at (set_live st i l) k).txn ≡ y) × Matches p (live_at (set_live st i l) k)) (sym z)
          (mine-at p (sym (at_same t x f) ∙ (ap (at t x f) (sym z) ∙ e)))
      go u p e (no z) = moved u p z (co.live u p (sym (at_other t x f u z) ∙ e))

-- the draft of no live transaction torn out
pub drafts-without : (st : Station) (f : ℕ → Option Draft) → Correspond st f → (t : ℕ) → ((j : ℕ) → (live_at st j).txn ≡ t → (live_at st j).txn ≢ 0 → ⊥) → Correspond st (at t none f)
drafts-without st f co t others = record {
  live = λ u p e. go u p e (ℕ_discrete u t);
  drafted = λ j n. rw (at_other t none f (live_at st j).txn (λ e. others j e n)) (co.drafted j n);
}
  where
    go : (u : ℕ) (p : Draft) → at t none f u ≡ some p → Dec (u ≡ t) → (u ≢ 0) × (k : ℕ) × ((live_at st k).txn ≡ u) × Matches p (live_at st k)
    go u p e (yes z) = absurd (none-ne-some p (sym (at_same t none f) ∙ (ap (at t none f) (sym z) ∙ e)))
    go u p e (no z) = co.live u p (sym (at_other t none f u z) ∙ e)

-- stations with the same live transactions
pub drafts-cast : (st st' : Station) (f : ℕ → Option Draft) → ((j : ℕ) → live_at st' j ≡ live_at st j) → Correspond st f → Correspond st' f
drafts-cast st st' f e co = record {
  live = λ t p x. let q = co.live t p x in (q.0, q.1, ap (λ (y : Live). y.txn) (e q.1) ∙ q.2, subst (Matches p) (sym (e q.1)) q.3);
  drafted = λ j. rw (e j) (co.drafted j);
}

-- t's own place: t's draft revised
module _ (st : Station) (f : ℕ → Option Draft) (co : Correspond st f) (h : sound st ≡ true) (t : ℕ) (n : t ≢ 0) (z : is_live t st ≡ true) (l : Live) (e : l.txn ≡ t) where
  pub drafts-revised : (g : Draft → Draft) → ((p : Draft) → Matches p (live_at st (place_of t st)) → Matches (g p) l) → Correspond (set_live st (place_of t st) l) (at t (mapped g (f t)) f)
  unfolding mapped
  drafts-revised g m =
      drafts-set st f co t (place_of t st) l (mapped g (f t)) (place-hit st t z).0 (λ y. (place-hit st t z).1) (no_other st h t z)
      (λ p q. let r = was-draft g (f t) p q in (n, e, subst (λ (y : Draft). Matches y l) (sym r.2) (m r.0 (matches-at st f h co t z r.0 r.1))))
      (λ y. let r = draft-of st f co t (place_of t st) (place-hit st t z).1 n in (e, g r.0, ap (mapped g) r.1))

  -- the draft stays
  pub drafts-same : ((p : Draft) → Matches p (live_at st (place_of t st)) → Matches p l) → Correspond (set_live st (place_of t st) l) f
  drafts-same m =
      subst (λ (x : ℕ → Option Draft). Correspond (set_live st (place_of t st) l) x) (fun_ext unaltered)
      (drafts-set st f co t (place_of t st) l (f t) (place-hit st t z).0 (λ y. (place-hit st t z).1) (no_other st h t z)
      (λ p q. (n, e, m p (matches-at st f h co t z p q)))
      (λ y. let r = draft-of st f co t (place_of t st) (place-hit st t z).1 n in (e, r.0, r.1)))
    where
      unaltered : (u : ℕ) → at t (f t) f u ≡ f u
      unaltered u = go (ℕ_discrete u t)
        where
          go : Dec (u ≡ t) → at t (f t) f u ≡ f u
          go (yes q) = ap (at t (f t) f) q ∙ (at_same t (f t) f ∙ ap f (sym q))
          go (no q) = at_other t (f t) f u q

-- t's place cleared, t's draft torn out
pub drafts-cleared : (st : Station) (f : ℕ → Option Draft) → Correspond st f → sound st ≡ true → (t : ℕ) → is_live t st ≡ true → Correspond (set_live st (place_of t st) no_live) (at t none f)
drafts-cleared st f co h t z =
    drafts-set st f co t (place_of t st) no_live none (place-hit st t z).0 (λ y. (place-hit st t z).1) (no_other st h t z)
    (λ p e. absurd (none-ne-some p e)) (λ y. absurd (y refl))
