-- What a get is answered from, in a station.
use Prim.Native.Nat.{ℕ, ◌<◌}
use mathlib.Core.Path.{◌≡◌, refl, sym, ap, subst, ◌∙◌}
use mathlib.Core.Bool.{Bool, true, false, cond}
use mathlib.Core.List.{List, [], ◌∷◌, map}
use lib.Dec.{eqb}
use lib.ListN.{length, get_or}
use native.Mathlib.Nat.{lt_irrefl}
use native.Mathlib.Omega.{arith}
use borrow.Author.Tests.{eq-eqb, ne_eqb}
use Rattle.model.specs.declared.Id.{Id}
use Rattle.model.specs.Types.{Entry, Write, Live, Station}
use Rattle.model.specs.declared.Answer.TheVariants as A
use Rattle.model.specs.Lists.{all, first, insert, member}
use Rattle.model.specs.Lives.{no_write, writes_of, reads_of, write_key, has_written, value_under}
use Rattle.model.specs.Entries.{wrote, wrote_as}
use Rattle.model.specs.Stations.{live_at, entry_at, place_of}
use Rattle.model.specs.Records.{value_in}
use Rattle.model.specs.Reading.{Choice, own, absent, nofit, version, choose}
use Rattle.model.specs.Effects.{Effect, says}
use Rattle.model.specs.Get.{choice_of, version_at, answered, get}
use Rattle.model.specs.Answers.{refused_with}
use Rattle.model.proofs.ListLaws.{first-yes, first-no, member-yes, member-no}
use Rattle.model.proofs.InsertLaws.{insert-rule}
use Rattle.model.proofs.RefusalLaws.{accepted}
use Rattle.model.proofs.ReadingLaws.{version-is, passes-wrote, as-wrote, InTheWay, nofit-has-key}
use Rattle.model.proofs.StationLaws.{entry-get}

-- not the transaction's own write: Algorithm 1 chose it
choice-chosen : (st : Station) (l : Live) (k : ℕ) (x : Choice) → ((v : ℕ) → own v ≡ x → ⊥) → choice_of st l k ≡ x → choose st.entries (reads_of l) k ≡ x
unfolding choice_of
choice-chosen st l k x other e = go (has_written k l) e
  where
    go : (w : Bool) → cond w (own (value_under k (writes_of l))) (choose st.entries (reads_of l) k) ≡ x → choose st.entries (reads_of l) k ≡ x
    go true q = absurd (other _ q)
    go false q = q

pub choice-version : (st : Station) (l : Live) (k d : ℕ) → choice_of st l k ≡ version d → choose st.entries (reads_of l) k ≡ version d
choice-version st l k d = choice-chosen st l k (version d) (λ v e. let z : ◌≡◌ {A = ℕ} 0 1 = cc in absurd (omega arith))

-- its entry is there and wrote the key
pub version-entry : (st : Station) (l : Live) (k d : ℕ) → choice_of st l k ≡ version d → (d < length st.entries) × (wrote (entry_at st d) k ≡ true)
version-entry st l k d e =
    let n = version-is st.entries (reads_of l) k d (choice-version st l k d e) in
    (n.low, subst (λ (x : Entry). wrote x k ≡ true) (entry-get st d n.low) (passes-wrote st.entries (reads_of l) k _ n.passes))

pub version-wrote : (st : Station) (l : Live) (k d : ℕ) → choice_of st l k ≡ version d → wrote_as st.entries (entry_at st d).id k ≡ true
version-wrote st l k d e =
    let r = version-entry st l k d e in
    subst (λ (x : Entry). wrote_as st.entries x.id k ≡ true) (entry-get st d r.0)
    (as-wrote st.entries k d r.0 (subst (λ (x : Entry). wrote x k ≡ true) (sym (entry-get st d r.0)) r.1))

-- ── only entries are read ──
-- a get that answers a version: the choice is a version, and the answer its value and id
answered-version : (st : Station) (s : List ℕ) (i k : ℕ) (ch : Choice) (v : ℕ) (x : Id) → (answered st s i k ch).answer ≡ A.Version v x
    → (d : ℕ) × (ch ≡ version d) × (v ≡ value_in (version_at st s k d)) × (x ≡ (entry_at st d).id)
unfolding answered says
answered-version st s i k (own u) v x h = let z : ◌≡◌ {A = ℕ} 0 1 = cc in absurd (omega arith)
answered-version st s i k absent v x h = let z : ◌≡◌ {A = ℕ} 0 1 = cc in absurd (omega arith)
answered-version st s i k (nofit n) v x h = let z : ◌≡◌ {A = ℕ} 0 1 = cc in absurd (omega arith)
answered-version st s i k (version d) v x h = (d, refl, cc, cc)

pub get-version : (st : Station) (s : List ℕ) (t k v : ℕ) (x : Id) → (get st s t k).answer ≡ A.Version v x
    → (d : ℕ) × (choice_of st (live_at st (place_of t st)) k ≡ version d) × (v ≡ value_in (version_at st s k d)) × (x ≡ (entry_at st d).id)
unfolding get all
get-version st s t k v x h =
    let r = accepted _ st _ refl (ap refused_with h ∙ (unfold refused_with in refl)) in
    answered-version st s (place_of t st) k _ v x (sym (ap (λ (e : Effect). e.answer) r.1) ∙ h)

-- ── nofit names a key (02 §1) ──
answered-nofit : (st : Station) (s : List ℕ) (i k : ℕ) (ch : Choice) (n : ℕ) → (answered st s i k ch).answer ≡ A.Nofit n → ch ≡ nofit n
unfolding answered says
answered-nofit st s i k (own u) n h = let z : ◌≡◌ {A = ℕ} 0 1 = cc in absurd (omega arith)
answered-nofit st s i k absent n h = let z : ◌≡◌ {A = ℕ} 0 1 = cc in absurd (omega arith)
answered-nofit st s i k (nofit x) n h = ap nofit (cc)
answered-nofit st s i k (version d) n h = let z : ◌≡◌ {A = ℕ} 0 1 = cc in absurd (omega arith)

-- a get that answers nofit, of any station and store: the newest entry that wrote the key conflicts, and on no lower key than the one named
pub get-nofit-key : (st : Station) (s : List ℕ) (t k n : ℕ) → (get st s t k).answer ≡ A.Nofit n → InTheWay st.entries (reads_of (live_at st (place_of t st))) k n
unfolding get all
get-nofit-key st s t k n h =
    let r = accepted _ st _ refl (ap refused_with h ∙ (unfold refused_with in refl)) in
    let l = live_at st (place_of t st) in
    nofit-has-key st.entries (reads_of l) k n
    (choice-chosen st l k (nofit n) (λ v e. let z : ◌≡◌ {A = ℕ} 0 1 = cc in absurd (omega arith))
    (answered-nofit st s (place_of t st) k _ n (sym (ap (λ (e : Effect). e.answer) r.1) ∙ h)))

-- ── read your writes (§3.5): a get of a key just put answers its value ──
pub value_inserted : (k v : ℕ) (ws : List Write) → value_under k (insert write_key (record { key = k; value = v }) ws) ≡ v
unfolding value_under
value_inserted k v [] = unfold insert in ap (λ (n : ℕ). (get_or (record { key = k; value = v } ∷ []) n no_write).value) (first-yes (eqb k) k [] (eq-eqb k k refl))
value_inserted k v (w ∷ ws) = insert-rule write_key (record { key = k; value = v }) (λ l. (get_or l (first (eqb k) (map write_key l)) no_write).value ≡ v) w ws
    (λ o. rw (first-no (eqb k) w.key _ (ne_eqb k w.key (λ e. lt_irrefl k (omega (arith, o, e))))) (value_inserted k v ws))
    (λ e. rw (first-yes (eqb k) k (map write_key ws) (eq-eqb k k refl)))
    (λ o. rw (first-yes (eqb k) k (w.key ∷ map write_key ws) (eq-eqb k k refl)))

pub member-inserted : (k v : ℕ) (ws : List Write) → member k (map write_key (insert write_key (record { key = k; value = v }) ws)) ≡ true
member-inserted k v [] = unfold insert in member-yes k k [] (eq-eqb k k refl)
member-inserted k v (w ∷ ws) = insert-rule write_key (record { key = k; value = v }) (λ l. member k (map write_key l) ≡ true) w ws
    (λ o. member-no k w.key _ (ne_eqb k w.key (λ e. lt_irrefl k (omega (arith, o, e)))) ∙ member-inserted k v ws)
    (λ e. member-yes k k (map write_key ws) (eq-eqb k k refl))
    (λ o. member-yes k k (w.key ∷ map write_key ws) (eq-eqb k k refl))
