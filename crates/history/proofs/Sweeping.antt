-- sweep keeps the invariant: it is its collects, each reported with its store.
use Prim.Native.Nat.{ℕ, zero, suc, ◌-◌, ◌<◌, ◌≤◌}
use mathlib.Core.Path.{◌≡◌, refl, sym, ap, subst, ◌∙◌}
use mathlib.Core.Logic.{◌⊎◌, inl, inr}
use mathlib.Core.Bool.{Bool, true, false}
use mathlib.Core.List.{List, [], ◌∷◌, ◌++◌, map}
use lib.ListN.{length, take}
use native.Mathlib.Nat.{not-suc-le-zero, le_of_suc-le-suc}
use native.Mathlib.Omega.{arith}
use borrow.Author.Tests.{le-leb}
use Rattle.model.specs.Types.{Station}
use Rattle.model.specs.Kinds.{Kind}
use Rattle.model.specs.declared.Answer.{Answer}
use Rattle.model.specs.declared.Answer.TheVariants as A
use Rattle.model.specs.Ranges.{Every}
use Rattle.model.specs.Sound.{sound}
use Rattle.model.specs.Effects.{RecordWrite, Effect, stored, says, says_storing, says_storing_all, Row, ◌when◌, refusals}
use Rattle.model.specs.Collect.{collect}
use Rattle.model.specs.Answers.{swept_in}
use Rattle.model.specs.Sweep.{collections, station_after, records_of, sweep}
use Rattle.model.specs.Calls.{Call, Collect, does}
use Rattle.model.proofs.RefusalLaws.{guard, unguarded}
use Rattle.model.proofs.SoundKept.{sound-kept}
use Rattle.model.proofs.CollectionLaws.{Ends, Goes, ends-or-goes, ends, next_station, next_store, goes, collected-kind, collections-kind, collections-count}
use Rattle.history.specs.Ledger.{Ledger, feed}
use Rattle.history.specs.Histories.{Report, report_of, fed, given_after}
use Rattle.history.proofs.Invariant.{Inv, Lasting, Reported}
use Rattle.history.proofs.Lasting.{lasting}
use Rattle.history.proofs.Collecting.{collect-keeps}

-- no store, and nothing reported
nothing-reported : (s : List ℕ) (b : Ledger) (st : Station) (a : Answer) → Inv st s b → Reported s b [] (says_storing_all a st [])
unfolding fed given_after stored
nothing-reported s b st a inv = record { after = inv; before = λ n o. absurd (not-suc-le-zero o); complete = λ n o. refl }

-- a call reported with its one store, and then what comes after it
module _ (s : List ℕ) (b : Ledger) (c : Call) (a : Answer) (rs : List Report) (e : Effect) (old : Lasting e.station.kind s b) where
  -- the call's effect, with what is reported after it
  abbrev Then : Effect → Type 0
  Then x = Reported (stored x.stores s) (feed x.answer c b) rs e
      → Reported s b (record { call = c; answer = x.answer; stores = length x.stores } ∷ rs) (says_storing_all a e.station (x.stores ++ e.stores))

  stored-then : (y : Answer) (st : Station) (d n : ℕ) (r : List ℕ) → Then (says_storing y st d n r)
  unfolding says_storing stored fed given_after
  stored-then y st d n r g = record { after = g.after; before = before; complete = complete }
    where
      w : RecordWrite
      w = record { kind = st.kind; slot = d; index = n; content = r }

      before : (m : ℕ) → m < suc (length e.stores) → Lasting e.station.kind (stored (take m (w ∷ e.stores)) s) (fed (given_after m (record { call = c; answer = y; stores = 1 } ∷ rs)) b)
      before zero o = old
      before (suc m) o = let q : suc m - 1 ≡ m = omega arith in rw (le-leb 1 (suc m) (omega arith), q) (g.before m (le_of_suc-le-suc o))

      complete : (m : ℕ) → suc (length e.stores) ≤ m → given_after m (record { call = c; answer = y; stores = 1 } ∷ rs) ≡ record { call = c; answer = y; stores = 1 } ∷ rs
      complete zero o = absurd (not-suc-le-zero o)
      complete (suc m) o = let q : suc m - 1 ≡ m = omega arith in rw (le-leb 1 (suc m) (omega arith), q) (ap (λ (x : List Report). record { call = c; answer = y; stores = 1 } ∷ x) (g.complete m (le_of_suc-le-suc o)))

  pub then-more : (x : Effect) (y : Answer) (st : Station) (d n : ℕ) (r : List ℕ) → x ≡ says_storing y st d n r → Then x
  then-more x y st d n r q = subst Then (sym q) (stored-then y st d n r)

-- the collects of a sweep, and so the sweep
collects-reported : (n : ℕ) (st : Station) (s : List ℕ) (b : Ledger) → sound st ≡ true → Inv st s b → (a : Answer)
    → Reported s b (map report_of (collections n st s)) (says_storing_all a (station_after (collections n st s) st) (records_of (collections n st s)))
unfolding station_after records_of report_of
collects-reported zero st s b h inv a = unfold collections in nothing-reported s b st a inv
collects-reported (suc n) st s b h inv a = go (ends-or-goes st s) (λ st₁ s₁ b₁ h₁ i₁. collects-reported n st₁ s₁ b₁ h₁ i₁ a)
  where
    same : (g : Goes st s) → (station_after (collections n (next_station st s g) (next_store st s g)) (next_station st s g)).kind ≡ st.kind
    same g = collections-kind n (next_station st s g) (next_store st s g) ∙ collected-kind st s g.slot g.taken

    go : Ends st s ⊎ Goes st s
        → ((st₁ : Station) (s₁ : List ℕ) (b₁ : Ledger) → sound st₁ ≡ true → Inv st₁ s₁ b₁ → Reported s₁ b₁ (map report_of (collections n st₁ s₁)) (says_storing_all a (station_after (collections n st₁ s₁) st₁) (records_of (collections n st₁ s₁))))
        → Reported s b (map report_of (collections (suc n) st s)) (says_storing_all a (station_after (collections (suc n) st s) st) (records_of (collections (suc n) st s)))
    go (inl e) ih = rw (ends st s e (suc n)) (nothing-reported s b st a inv)
    go (inr g) ih =
        let k = collect-keeps st s b g.slot inv h in
        rw (goes st s g n) (then-more s b (Collect g.slot) a _ _ (subst (λ (x : Kind). Lasting x s b) (sym (same g)) (lasting st s b h inv)) (collect st s g.slot) _ _ _ _ _ g.taken.comes-to
        (ih (next_station st s g) (next_store st s g) _ (unfold does in sound-kept (Collect g.slot) st s h) k.after))

-- a refused sweep is no collect, and alters nothing
Refusing : Station → List ℕ → Effect → Type 0
Refusing st s e = (b : Ledger) → Inv st s b → Reported s b (map report_of (collections (swept_in e.answer) st s)) e

pub sweep-keeps : (st : Station) (s : List ℕ) (b : Ledger) (n : ℕ) → Inv st s b → sound st ≡ true → Reported s b (map report_of (collections (swept_in (sweep st s n).answer) st s)) (sweep st s n)
unfolding sweep Refusing
sweep-keeps st s b n inv h = rows b inv
  where
    refused : (x : ℕ) → Refusing st s (says (A.Refused x 0) st)
    refused x b₁ i₁ = unfold says in unfold swept_in in unfold collections in nothing-reported s b₁ st _ i₁

    row : (x : ℕ) (t : Bool) (rs : List Row) (e : Effect) → (t ≡ false → Refusing st s (refusals rs st e)) → Refusing st s (refusals (x when t ∷ rs) st e)
    row x t rs e f = guard (Refusing st s) x t rs st e (refused x) f

    swept : Refusing st s (says_storing_all (A.Swept (length (collections n st s))) (station_after (collections n st s) st) (records_of (collections n st s)))
    swept b₁ i₁ = unfold swept_in in rw (collections-count n st s) (collects-reported n st s b₁ h i₁ _)

    rows : Refusing st s (sweep st s n)
    rows = row 1 _ _ _ λ h1. row 2 _ _ _ λ h2. row 20 _ _ _ λ h20. unguarded (Refusing st s) st _ swept

-- ── a cut after the first j of a sweep's writes has fed j of its collects ──
-- each reports one store
each-reports-one : (n : ℕ) (st : Station) (s : List ℕ) → Every (λ (r : Report). r.stores ≡ 1) (map report_of (collections n st s))
unfolding report_of says_storing
each-reports-one zero st s = unfold collections in tt
each-reports-one (suc n) st s = go (ends-or-goes st s) (λ st₁ s₁. each-reports-one n st₁ s₁)
  where
    go : Ends st s ⊎ Goes st s → ((st₁ : Station) (s₁ : List ℕ) → Every (λ (r : Report). r.stores ≡ 1) (map report_of (collections n st₁ s₁))) → Every (λ (r : Report). r.stores ≡ 1) (map report_of (collections (suc n) st s))
    go (inl e) ih = rw (ends st s e (suc n)) tt
    go (inr g) ih = rw (goes st s g n) (ap (λ (e : Effect). length e.stores) g.taken.comes-to, ih (next_station st s g) (next_store st s g))

ones-given : (rs : List Report) → Every (λ (r : Report). r.stores ≡ 1) rs → (j : ℕ) → given_after j rs ≡ take j rs
unfolding given_after
ones-given [] h zero = refl
ones-given [] h (suc j) = refl
ones-given (r ∷ rs) h zero = rw h.0
ones-given (r ∷ rs) h (suc j) =
    let q : suc j - 1 ≡ j = omega arith in
    rw (h.0, le-leb 1 (suc j) (omega arith), q) (ap (λ (x : List Report). record { call = r.call; answer = r.answer; stores = 1 } ∷ x) (ones-given rs h.1 j))

pub prefix-fed : (n : ℕ) (st : Station) (s : List ℕ) (j : ℕ) → given_after j (map report_of (collections n st s)) ≡ take j (map report_of (collections n st s))
prefix-fed n st s j = ones-given _ (each-reports-one n st s) j
