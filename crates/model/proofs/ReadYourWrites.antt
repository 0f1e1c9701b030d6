-- Read your writes (§3.5): a get of a key that was just put answers the value put, whatever the store's bytes.
use Prim.Native.Nat.{ℕ, ◌<◌}
use mathlib.Core.Path.{◌≡◌, refl, sym, ap, subst, ◌∙◌}
use mathlib.Core.Logic.{◌≢◌}
use mathlib.Core.Bool.{true, false}
use mathlib.Core.List.{List}
use lib.ListN.{length}
use borrow.Author.Tests.{leb-false, eqb-false, not-false, lt-leb, eq-eqb, ne_eqb}
use Rattle.model.specs.Types.{Live, Station}
use Rattle.model.specs.declared.Answer.TheVariants as A
use Rattle.model.specs.Lists.{all}
use Rattle.model.specs.Limits.{keys}
use Rattle.model.specs.Kinds.{store_size}
use Rattle.model.specs.Lives.{writes_of, has_written, value_under, is_closing, with_writes}
use Rattle.model.specs.Stations.{live_at, set_live, is_live, place_of}
use Rattle.model.specs.Sound.{sound}
use Rattle.model.specs.Reading.{Choice, own}
use Rattle.model.specs.Effects.{Effect, says, wrong_length, unsound}
use Rattle.model.specs.Put.{with_write, put}
use Rattle.model.specs.Get.{choice_of, no_room, not_carried, answered, get}
use Rattle.model.specs.Calls.{Put, does}
use Rattle.model.specs.Answers.{refused_with}
use Rattle.model.proofs.Tests.{not-of-true}
use Rattle.model.proofs.RefusalLaws.{refusals-none, accepted, row-off, skipped}
use Rattle.model.proofs.StationLaws.{place-hit, is_live_lem, live_at-same}
use Rattle.model.proofs.GetLaws.{value_inserted, member-inserted}
use Rattle.model.proofs.SoundLaws.{writes_of-with_writes}
use Rattle.model.proofs.SoundFacts.{one_place}
use Rattle.model.proofs.SoundKept.{sound-kept}

-- the place of a transaction that a place has
place_is : (st : Station) → sound st ≡ true → (t i : ℕ) → t ≢ 0 → (live_at st i).txn ≡ t → (is_live t st ≡ true) × (place_of t st ≡ i)
place_is st h t i n e =
    let nz : (live_at st i).txn ≢ 0 = (λ z. n (sym e ∙ z)) in
    let l : is_live t st ≡ true = subst (λ (u : ℕ). is_live u st ≡ true) e (is_live_lem st i nz) in
    (l, sym (one_place st h i (place_of t st) (e ∙ sym (place-hit st t l).1) nz))

-- a get by an open transaction of a key in its write set
own_read : (st : Station) (s : List ℕ) (t k : ℕ) → sound st ≡ true → length s ≡ store_size st.kind → t ≢ 0 → k < keys → is_live t st ≡ true
    → is_closing (live_at st (place_of t st)).phase ≡ false → has_written k (live_at st (place_of t st)) ≡ true
    → (get st s t k).answer ≡ A.Own (value_under k (writes_of (live_at st (place_of t st))))
unfolding get wrong_length unsound no_room not_carried answered says choice_of
own_read st s t k h o n ok z nc w = ap (λ (e : Effect). e.answer) (
    skipped 1 _ _ st _ (not-of-true _ (eq-eqb (length s) (store_size st.kind) o))
    ∙ (skipped 2 _ _ st _ (not-of-true _ h)
    ∙ (skipped 3 _ _ st _ (ne_eqb t 0 n)
    ∙ (skipped 4 _ _ st _ (lt-leb keys k ok)
    ∙ (skipped 8 _ _ st _ (not-of-true _ z)
    ∙ (skipped 9 _ _ st _ nc
    ∙ (skipped 12 _ _ st _ (ap (no_room (live_at st (place_of t st)) k) ch)
    ∙ (skipped 17 _ _ st _ (ap (not_carried st s k) ch)
    ∙ refusals-none st _)))))))) ∙ ap (λ (x : Choice). (answered st s (place_of t st) k x).answer) ch
  where
    ch : choice_of st (live_at st (place_of t st)) k ≡ own (value_under k (writes_of (live_at st (place_of t st))))
    ch = rw w

-- the station with the value put
after : (st : Station) (s : List ℕ) (t k v : ℕ) → sound (set_live st (place_of t st) (with_write k v (live_at st (place_of t st)))) ≡ true → length s ≡ store_size st.kind → t ≢ 0 → k < keys
    → is_live t st ≡ true → is_closing (live_at st (place_of t st)).phase ≡ false
    → (get (set_live st (place_of t st) (with_write k v (live_at st (place_of t st)))) s t k).answer ≡ A.Own v
after st s t k v h o n ok z nc =
    own_read new s t k h (unfold set_live in o) n ok p.0 (rw (at_place) (unfold with_write with_writes in nc)) (rw at_place (unfold has_written with_write in rw (writes_of-with_writes _ l) (member-inserted k v (writes_of l))))
    ∙ ap A.Own (ap (λ (x : Live). value_under k (writes_of x)) at_place ∙ (unfold with_write in (ap (value_under k) (writes_of-with_writes _ l) ∙ value_inserted k v (writes_of l))))
  where
    l : Live
    l = live_at st (place_of t st)

    new : Station
    new = set_live st (place_of t st) (with_write k v l)

    there : live_at new (place_of t st) ≡ with_write k v l
    there = live_at-same st (place_of t st) (with_write k v l) (place-hit st t z).0

    p : (is_live t new ≡ true) × (place_of t new ≡ place_of t st)
    p = place_is new h t (place_of t st) n (ap (λ (x : Live). x.txn) there ∙ (unfold with_write with_writes in (place-hit st t z).1))

    at_place : live_at new (place_of t new) ≡ with_write k v l
    at_place = ap (live_at new) p.1 ∙ there

pub read-your-writes : (st : Station) (s : List ℕ) (t k v : ℕ) → (put st t k v).answer ≡ A.Kept → length s ≡ store_size st.kind → (get (put st t k v).station s t k).answer ≡ A.Own v
unfolding put all says does
read-your-writes st s t k v h o =
    let a = accepted _ st _ refl (ap refused_with h ∙ (unfold refused_with in refl)) in
    let r2 = row-off 2 _ _ a.0 in
    let r3 = row-off 3 _ _ r2.1 in
    let r4 = row-off 4 _ _ r3.1 in
    let r8 = row-off 8 _ _ r4.1 in
    let r9 = row-off 9 _ _ r8.1 in
    subst (λ (x : Station). (get x s t k).answer ≡ A.Own v) (sym (ap (λ (e : Effect). e.station) a.1))
    (after st s t k v (subst (λ (x : Station). sound x ≡ true) (ap (λ (e : Effect). e.station) a.1) (sound-kept (Put t k v) st s (sound-is r2.0)))
    o (eqb-false t 0 r3.0) (leb-false keys k r4.0) (not-false _ r8.0) r9.0)
  where
    sound-is : unsound st ≡ false → sound st ≡ true
    sound-is x = not-false _ (unfold unsound in x)
