-- A get, test by test.
use Prim.Native.Nat.{ℕ}
use mathlib.Core.Path.{◌≡◌, refl, sym, ap, ap₂, ◌∙◌}
use mathlib.Core.Logic.{◌≢◌}
use mathlib.Core.Bool.{Bool, true, false}
use mathlib.Core.List.{List, [], ◌∷◌}
use mathlib.Core.Option.{Option, some, none}
use lib.ListN.{length}
use native.Mathlib.Omega.{arith}
use borrow.Author.Tests.{ne_eqb}
use Rattle.model.specs.Kinds.{store_size}
use Rattle.model.specs.declared.Read.{Read}
use Rattle.model.specs.Types.{Live}
use Rattle.model.specs.Types.{Entry, Station}
use Rattle.model.specs.declared.Answer.TheVariants as A
use Rattle.model.specs.Lists.{any}
use Rattle.model.specs.Lives.{writes_of, reads_of, has_written, value_under}
use Rattle.model.specs.Entries.{wrote}
use Rattle.model.specs.Stations.{live_at, entry_at, set_live, live_txns, is_live, place_of}
use Rattle.model.specs.Records.{value_in, carries_version}
use Rattle.model.specs.Sound.{sound}
use Rattle.model.specs.Orders.{newest}
use Rattle.model.specs.Reading.{passes, key_in_the_way, Choice, own, absent, nofit, version, chosen, choose}
use Rattle.model.specs.Effects.{Effect, says, ◌when◌, refusals, wrong_length, unsound}
use Rattle.model.specs.declared.refusal.Refusal.{Refusal}
use Rattle.model.specs.Refusals.{number_of}
use Rattle.model.specs.Get.{choice_of, with_read, version_at, no_room, not_carried, answered, get}
use Rattle.model.proofs.RefusalLaws.{refusals-none, skipped, hit}
use Rattle.model.proofs.Tests.{not_of_false, not-of-true}
use Rattle.reading.specs.declared.Chosen.TheVariants.{Version, Nofit, None}
use Rattle.reading.specs.Choosing.{chosen_as}
use Rattle.stations.specs.Found.{place_in, first_row, named_rows, open_rows}
use Rattle.stations.proofs.RowLaws.{refusal-comes, rows-passed, open-numbered}
use Rattle.storing.proofs.Parts.{length-right}

-- ── what Algorithm 1 chose, from the code's answer ──
pub chosen-version : (x : Choice) (d : ℕ) → chosen_as x ≡ Version d → x ≡ version d
unfolding chosen_as
chosen-version (own v) d h = let y : ◌≡◌ {A = ℕ} 0 1 = cc in absurd (omega arith)
chosen-version absent d h = let y : ◌≡◌ {A = ℕ} 0 1 = cc in absurd (omega arith)
chosen-version (nofit n) d h = let y : ◌≡◌ {A = ℕ} 0 1 = cc in absurd (omega arith)
chosen-version (version x) d h = cc

pub chosen-nofit : (x : Choice) (n : ℕ) → chosen_as x ≡ Nofit n → x ≡ nofit n
unfolding chosen_as
chosen-nofit (own v) n h = let y : ◌≡◌ {A = ℕ} 0 1 = cc in absurd (omega arith)
chosen-nofit absent n h = let y : ◌≡◌ {A = ℕ} 0 1 = cc in absurd (omega arith)
chosen-nofit (nofit x) n h = cc
chosen-nofit (version x) n h = let y : ◌≡◌ {A = ℕ} 0 1 = cc in absurd (omega arith)

pub chosen_none : (es : List Entry) (rs : List Read) (k : ℕ) → chosen_as (choose es rs k) ≡ None → choose es rs k ≡ absent
unfolding choose chosen chosen_as
chosen_none es rs k h = go (any (λ e. wrote e k) es) (newest (passes es rs k) es) (key_in_the_way es rs k) h
  where
    go : (b : Bool) (o : Option ℕ) (x : ℕ) → chosen_as (chosen b o x) ≡ None → chosen b o x ≡ absent
    go b (some d) x e = let y : ◌≡◌ {A = ℕ} 0 1 = cc in absurd (omega arith)
    go true none x e = let y : ◌≡◌ {A = ℕ} 0 1 = cc in absurd (omega arith)
    go false none x e = refl

pub choice-own : (st : Station) (l : Live) (k v : ℕ) → v ≡ value_under k (writes_of l) → has_written k l ≡ true → choice_of st l k ≡ own v
unfolding choice_of
choice-own st l k v q h = rw (h, q)

pub choice-read : (st : Station) (l : Live) (k : ℕ) → has_written k l ≡ false → choice_of st l k ≡ choose st.entries (reads_of l) k
unfolding choice_of
choice-read st l k h = rw h

-- ── the tests of a get, in their order ──
module _ (st : Station) (s : List ℕ) (t k : ℕ) where
  pub get-1 : length s ≢ store_size st.kind → get st s t k ≡ says (A.Refused 1 0) st
  unfolding get wrong_length
  get-1 h = hit 1 _ _ st _ (not_of_false _ (ne_eqb _ _ h))

  -- from row 12 on, with transaction l at place i
  abbrev pub get-rest : ℕ → Live → Effect
  get-rest i l = refusals (12 when no_room l k (choice_of st l k) ∷ 17 when not_carried st s k (choice_of st l k) ∷ []) st (answered st s i k (choice_of st l k))

  get_rows : get st s t k ≡ refusals (1 when wrong_length st.kind s ∷ []) st (refusals (open_rows st.live t k (sound st)) st (get-rest (place_of t st) (live_at st (place_of t st))))
  unfolding get refusals open_rows named_rows unsound is_live live_txns place_of live_at
  get_rows = refl

  module _ (z : length s ≡ store_size st.kind) (b : Bool) (tested : b ≡ sound st) where
    get-sized : get st s t k ≡ refusals (open_rows st.live t k (sound st)) st (get-rest (place_of t st) (live_at st (place_of t st)))
    get-sized = get_rows ∙ (skipped 1 _ [] st _ (length-right st.kind s z) ∙ refusals-none st _)

    pub get_refused : (r : Refusal) → number_of r ≡ first_row (open_rows st.live t k b) → get st s t k ≡ says (A.Refused (number_of r) 0) st
    get_refused r e = get-sized ∙ refusal-comes st (open_rows st.live t k) b tested r e _

    pub get-open : first_row (open_rows st.live t k b) ≡ 0 → (i : ℕ) → i ≡ place_in t st.live → (l : Live) → l ≡ live_at st i → get st s t k ≡ get-rest i l
    unfolding place_of live_txns
    get-open e i p l q =
        get-sized ∙ (rows-passed st (open_rows st.live t k) b tested e (open-numbered st.live t k (sound st)) _
        ∙ (ap (λ (j : ℕ). get-rest j (live_at st j)) (sym p) ∙ ap (get-rest i) (sym q)))

  module _ (i : ℕ) (l : Live) (g : get st s t k ≡ get-rest i l) where
    chosen-rows : (ch : Choice) → choice_of st l k ≡ ch → get st s t k ≡ refusals (12 when no_room l k ch ∷ 17 when not_carried st s k ch ∷ []) st (answered st s i k ch)
    chosen-rows ch h = g ∙ ap (λ (x : Choice). refusals (12 when no_room l k x ∷ 17 when not_carried st s k x ∷ []) st (answered st s i k x)) h

    pub get-own : (v : ℕ) → choice_of st l k ≡ own v → get st s t k ≡ says (A.Own v) st
    unfolding no_room not_carried answered refusals
    get-own v h = chosen-rows (own v) h

    pub get_none : choice_of st l k ≡ absent → get st s t k ≡ says A.None st
    unfolding no_room not_carried answered refusals
    get_none h = chosen-rows absent h

    pub get-nofit : (n : ℕ) → choice_of st l k ≡ nofit n → get st s t k ≡ says (A.Nofit n) st
    unfolding no_room not_carried answered refusals
    get-nofit n h = chosen-rows (nofit n) h

    module _ (d : ℕ) (c : choice_of st l k ≡ version d) where
      pub get-12 : no_room l k (version d) ≡ true → get st s t k ≡ says (A.Refused 12 0) st
      get-12 h = chosen-rows (version d) c ∙ hit 12 _ _ st _ h

      module _ (r : no_room l k (version d) ≡ false) where
        pub get-17 : carries_version (version_at st s k d) k (entry_at st d).id ≡ false → get st s t k ≡ says (A.Refused 17 0) st
        unfolding not_carried
        get-17 h = chosen-rows (version d) c ∙ (skipped 12 _ _ st _ r ∙ hit 17 _ _ st _ (not_of_false _ h))

        pub get-version : l ≡ live_at st i → (v : ℕ) (m : Live) → carries_version (version_at st s k d) k (entry_at st d).id ≡ true → v ≡ value_in (version_at st s k d) → m ≡ with_read k (entry_at st d).id l
            → get st s t k ≡ says (A.Version v (entry_at st d).id) (set_live st i m)
        unfolding not_carried answered
        get-version q v m h ev em =
            chosen-rows (version d) c ∙ (skipped 12 _ _ st _ r ∙ (skipped 17 _ _ st _ (not-of-true _ h) ∙ (refusals-none st _
            ∙ sym (ap₂ {B = Live} (λ (x : ℕ) (y : Live). says (A.Version x (entry_at st d).id) (set_live st i y)) ev (em ∙ ap (with_read k (entry_at st d).id) q)))))
