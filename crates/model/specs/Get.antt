-- 01 'Calls': "get ticket, key. If the key is in the write list: own value (§3.5). Else Algorithm 1 over the entries."
use Rattle.std.specs.Prelude.{ℕ, Bool, false, not, cond, List, [], ◌∷◌, eqb, leb}
use Rattle.model.specs.declared.Id.{Id}
use Rattle.model.specs.Types.{Live, Station}
use Rattle.model.specs.declared.Answer.TheVariants as A
use Rattle.model.specs.Lists.{◌and◌, insert}
use Rattle.model.specs.Limits.{keys, read_limit}
use Rattle.model.specs.Lives.{writes_of, reads_of, read_key, has_written, has_read, value_under, is_closing, with_reads}
use Rattle.model.specs.Entries.{record_of}
use Rattle.model.specs.Stations.{live_at, entry_at, set_live, is_live, place_of}
use Rattle.model.specs.Records.{value_in, carries_version, record_at}
use Rattle.model.specs.Reading.{Choice, own, absent, nofit, version, choose}
use Rattle.model.specs.Effects.{Effect, says, ◌when◌, refusals, wrong_length, unsound}

unfoldable pub choice_of : Station → Live → ℕ → Choice
choice_of st l k = cond (has_written k l) (own (value_under k (writes_of l))) (choose st.entries (reads_of l) k)

-- "The key and id join the read list."
unfoldable pub with_read : ℕ → Id → Live → Live
with_read k i l = with_reads (insert read_key (record { key = k; id = i }) (reads_of l)) l

-- the version record of key k in slot d
unfoldable pub version_at : Station → List ℕ → ℕ → ℕ → List ℕ
version_at st s k d = record_at st.kind s d (record_of (entry_at st d) k)

-- row 12: "a version would be answered, its key is not in the read list, which has 16"
unfoldable pub no_room : Live → ℕ → Choice → Bool
no_room l k (own v) = false
no_room l k absent = false
no_room l k (nofit x) = false
no_room l k (version d) = not (has_read k l) and leb read_limit l.read_count

-- row 17: "the slip to be read .. does not carry the entry's id .. so far as it has them"
unfoldable pub not_carried : Station → List ℕ → ℕ → Choice → Bool
not_carried st s k (own v) = false
not_carried st s k absent = false
not_carried st s k (nofit x) = false
not_carried st s k (version d) = not (carries_version (version_at st s k d) k (entry_at st d).id)

-- "The paper answers NULL to both; neither joins the read list." 02 §1: nofit carries the key in the way.
unfoldable pub answered : Station → List ℕ → ℕ → ℕ → Choice → Effect
answered st s i k (own v) = says (A.Own v) st
answered st s i k absent = says A.None st
answered st s i k (nofit x) = says (A.Nofit x) st
answered st s i k (version d) =
    says (A.Version (value_in (version_at st s k d)) (entry_at st d).id) (set_live st i (with_read k (entry_at st d).id (live_at st i)))

unfoldable pub get : Station → List ℕ → ℕ → ℕ → Effect
get st s t k =
    let i : ℕ = place_of t st in let l : Live = live_at st i in let ch : Choice = choice_of st l k in
    refusals (
    1 when wrong_length st.kind s
    ∷ 2 when unsound st
    ∷ 3 when eqb t 0
    ∷ 4 when leb keys k
    ∷ 8 when not (is_live t st)
    ∷ 9 when is_closing l.phase
    ∷ 12 when no_room l k ch
    ∷ 17 when not_carried st s k ch
    ∷ []
    ) st
    (answered st s i k ch)
