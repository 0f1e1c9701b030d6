-- The store for hosts in other languages: requests and answers as bytes, and what an exchange of them comes to. Numbers are least byte first.
use Rattle.std.specs.Prelude.{ℕ, ◌*◌, ◌/◌, ◌%◌, Bool, cond, List, [], ◌∷◌, ◌++◌, eqb, length, get_or}
use Rattle.std.proofs.Math.Option.{Option, some, none}
use Rattle.model.specs.Kinds.{narrow_kind}
use Rattle.model.specs.Types.{Station}
use Rattle.model.specs.declared.Answer.{Answer}
use Rattle.model.specs.declared.Answer.TheVariants as A
use Rattle.model.specs.Lists.{◌and◌, ◌or◌}
use Rattle.model.specs.Ids.{no_id}
use Rattle.model.specs.Listed.{listed, numbered}
use Rattle.model.specs.Bytes.{bytes, id_in}
use Rattle.model.specs.Stations.{empty_station, set_entry}
use Rattle.model.specs.Effects.{Effect, stored}
use Rattle.model.specs.Calls.{Call, Sweep}
use Rattle.model.specs.Answers.{values_of}
use Rattle.sheet.specs.Words.{Verb, is_start, is_put, is_get, is_commit, is_step, is_abort, is_collect, is_cut}
use Rattle.sheet.specs.Lines.{if_unused, of_fields}
use Rattle.sheet.specs.Sheets.{line_effect}
use Rattle.desk.specs.Acts.{asks_scan}
use Rattle.image.specs.Layout.{image_size, parts}
use Rattle.image.specs.Images.{station_bytes, station_in, is_image}

-- ── sizes ──
abbrev pub request_size : ℕ
request_size = 16

abbrev pub answer_size : ℕ
answer_size = 32

-- ── a request: verb, key (or slot), two zeros, transaction 4, number 8 (value, clock or limit) ──
-- the verbs of a sheet: 1 start, 2 put, 3 get, 4 commit, 5 step, 6 abort, 7 collect, 8 scan, which a sheet calls cut
unfoldable pub verb_numbered : ℕ → Option Verb
verb_numbered n =
    get_or (
    none
    ∷ some is_start
    ∷ some is_put
    ∷ some is_get
    ∷ some is_commit
    ∷ some is_step
    ∷ some is_abort
    ∷ some is_collect
    ∷ some is_cut
    ∷ []
    ) n none

-- and 9 sweep, which a sheet has not: its limit is the number
abbrev pub sweep_verb : ℕ
sweep_verb = 9

-- what a verb asks with a transaction, a key and a number
unfoldable pub asked : ℕ → ℕ → ℕ → ℕ → Option Call
asked v t k n = cond (eqb v sweep_verb) (if_unused (eqb t 0 and eqb k 0) (Sweep n)) (of_fields (verb_numbered v) (some t) (some k) (some n))

-- the call; none where the verb is unknown, or one of the two zeros or a field that the call does not use is not 0
unfoldable pub request_call : List ℕ → Option Call
request_call q = cond (eqb (get_or q 2 0) 0 and eqb (get_or q 3 0) 0) (asked (get_or q 0 0) (id_in q).txn (get_or q 1 0) (id_in q).clock) none

-- ── an answer: its kind, then a, b and c as a sheet prints them, 8 bytes each ──
unfoldable pub answer_kind : Answer → ℕ
answer_kind A.Started = 1
answer_kind A.Kept = 2
answer_kind (A.Own v) = 3
answer_kind (A.Version v i) = 4
answer_kind A.None = 5
answer_kind (A.Nofit k) = 6
answer_kind (A.Closing d) = 7
answer_kind A.Empty = 8
answer_kind (A.Done i) = 9
answer_kind (A.Stored k) = 10
answer_kind (A.Slipped d) = 11
answer_kind A.Dropped = 12
answer_kind (A.Collected i) = 13
answer_kind (A.Found n) = 14
answer_kind (A.Refused n d) = 15
answer_kind (A.Swept n) = 16
answer_kind (A.Moved n) = 17

unfoldable pub four_bytes : ℕ → ℕ → ℕ → ℕ → List ℕ
four_bytes kind a b c = bytes 8 kind ++ (bytes 8 a ++ (bytes 8 b ++ bytes 8 c))

unfoldable pub answer_bytes : Answer → List ℕ
answer_bytes x = four_bytes (answer_kind x) (values_of x).a (values_of x).b (values_of x).c

-- ── between two requests: the station with whether the image is to be its own, and the store ──
pub record Held : Type 0 where
  pub whole : Bool
  pub station : Station
  pub store : List ℕ

-- a narrow one, with an entry that has a key and no id: every call but a scan is refused with 2, or with 1
unfoldable pub unsound_station : Station
unsound_station = set_entry (empty_station narrow_kind) 0 (record { id = no_id; keys = 0 ∷ [] })

-- at first: the station of the image; where the image is none, a station that is not sound
unfoldable pub held_in : List ℕ → List ℕ → Held
held_in image s = record { whole = is_image image; station = cond (is_image image) (listed (station_in image)) unsound_station; store = s }

-- a request comes to what a sheet's line does: its call's effect, or 19 where it asks for none
unfoldable pub request_effect : List ℕ → Held → Effect
request_effect q h = line_effect (request_call q) h.station h.store

-- a scan's station is its own, whatever the image was
unfoldable pub after_request : List ℕ → Held → Held
after_request q h = record { whole = h.whole or asks_scan (request_call q); station = (request_effect q h).station; store = stored (request_effect q h).stores h.store }

-- requests one after the other, and their answers
unfoldable pub after_requests : List (List ℕ) → Held → Held
after_requests [] h = h
after_requests (q ∷ qs) h = after_requests qs (after_request q h)

unfoldable pub answers_to : List (List ℕ) → Held → List ℕ
answers_to [] h = []
answers_to (q ∷ qs) h = answer_bytes (request_effect q h).answer ++ answers_to qs (after_request q h)

-- the image of a station, whose write sets are numbers in it
unfoldable pub image_of : Station → List ℕ
image_of st = station_bytes (numbered st)

-- afterwards: an image that is no station's stays as it was until a scan
unfoldable pub image_after : List ℕ → Held → List ℕ
image_after image h = cond h.whole (image_of h.station) image

-- ── bytes handed over ──
unfoldable pub requests_in : List ℕ → List (List ℕ)
requests_in b = parts request_size (length b / request_size) b

unfoldable pub after_run : List ℕ → List ℕ → List ℕ → Held
after_run image s requests = after_requests (requests_in requests) (held_in image s)

unfoldable pub answers_in : List ℕ → List ℕ → List ℕ → List ℕ
answers_in image s requests = answers_to (requests_in requests) (held_in image s)

-- the lengths of image, requests and answers: an image, whole requests, and 32 bytes for the answer to each; else nothing is done
unfoldable pub fits : ℕ → ℕ → ℕ → Bool
fits image requests answers = eqb image image_size and eqb (requests % request_size) 0 and eqb answers (answer_size * (requests / request_size))

-- the same for one request
unfoldable pub fits_one : ℕ → ℕ → ℕ → Bool
fits_one image request answer = eqb image image_size and eqb request request_size and eqb answer answer_size
