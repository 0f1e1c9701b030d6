-- The verbs, the answers and the header, as ASCII bytes.
use Rattle.std.specs.Prelude.{ℕ, List, [], ◌∷◌}
use Rattle.model.specs.declared.Answer.{Answer}
use Rattle.model.specs.declared.Answer.TheVariants as A

-- "The verbs are the names of the calls except scan, and `cut`."
pub data Verb : Type 0 where
  is_start : Verb
  is_put : Verb
  is_get : Verb
  is_commit : Verb
  is_step : Verb
  is_abort : Verb
  is_collect : Verb
  is_cut : Verb

unfoldable pub verb_bytes : Verb → List ℕ
verb_bytes is_start = 115 ∷ 116 ∷ 97 ∷ 114 ∷ 116 ∷ []
verb_bytes is_put = 112 ∷ 117 ∷ 116 ∷ []
verb_bytes is_get = 103 ∷ 101 ∷ 116 ∷ []
verb_bytes is_commit = 99 ∷ 111 ∷ 109 ∷ 109 ∷ 105 ∷ 116 ∷ []
verb_bytes is_step = 115 ∷ 116 ∷ 101 ∷ 112 ∷ []
verb_bytes is_abort = 97 ∷ 98 ∷ 111 ∷ 114 ∷ 116 ∷ []
verb_bytes is_collect = 99 ∷ 111 ∷ 108 ∷ 108 ∷ 101 ∷ 99 ∷ 116 ∷ []
verb_bytes is_cut = 99 ∷ 117 ∷ 116 ∷ []

-- "Answers: started; kept; own, version, none, nofit; closing, empty, done (commit); stored, slipped, done (step n + 2); dropped
-- (abort); collected; found (cut); refused."
unfoldable pub word_of : Answer → List ℕ
word_of A.Started = 115 ∷ 116 ∷ 97 ∷ 114 ∷ 116 ∷ 101 ∷ 100 ∷ []
word_of A.Kept = 107 ∷ 101 ∷ 112 ∷ 116 ∷ []
word_of (A.Own v) = 111 ∷ 119 ∷ 110 ∷ []
word_of (A.Version v i) = 118 ∷ 101 ∷ 114 ∷ 115 ∷ 105 ∷ 111 ∷ 110 ∷ []
word_of A.None = 110 ∷ 111 ∷ 110 ∷ 101 ∷ []
word_of (A.Nofit k) = 110 ∷ 111 ∷ 102 ∷ 105 ∷ 116 ∷ []
word_of (A.Closing d) = 99 ∷ 108 ∷ 111 ∷ 115 ∷ 105 ∷ 110 ∷ 103 ∷ []
word_of A.Empty = 101 ∷ 109 ∷ 112 ∷ 116 ∷ 121 ∷ []
word_of (A.Done i) = 100 ∷ 111 ∷ 110 ∷ 101 ∷ []
word_of (A.Stored k) = 115 ∷ 116 ∷ 111 ∷ 114 ∷ 101 ∷ 100 ∷ []
word_of (A.Slipped d) = 115 ∷ 108 ∷ 105 ∷ 112 ∷ 112 ∷ 101 ∷ 100 ∷ []
word_of A.Dropped = 100 ∷ 114 ∷ 111 ∷ 112 ∷ 112 ∷ 101 ∷ 100 ∷ []
word_of (A.Collected i) = 99 ∷ 111 ∷ 108 ∷ 108 ∷ 101 ∷ 99 ∷ 116 ∷ 101 ∷ 100 ∷ []
word_of (A.Found n) = 102 ∷ 111 ∷ 117 ∷ 110 ∷ 100 ∷ []
word_of (A.Refused n d) = 114 ∷ 101 ∷ 102 ∷ 117 ∷ 115 ∷ 101 ∷ 100 ∷ []
-- 02 §2: "The sheet gets no verb for this or any later call.": no line is answered so (line-no-sweep), the word is for whoever prints an answer
word_of (A.Swept n) = 115 ∷ 119 ∷ 101 ∷ 112 ∷ 116 ∷ []
word_of (A.Moved n) = 109 ∷ 111 ∷ 118 ∷ 101 ∷ 100 ∷ []

-- "line,answer,a,b,c"
unfoldable pub header : List ℕ
header = 108 ∷ 105 ∷ 110 ∷ 101 ∷ 44 ∷ 97 ∷ 110 ∷ 115 ∷ 119 ∷ 101 ∷ 114 ∷ 44 ∷ 97 ∷ 44 ∷ 98 ∷ 44 ∷ 99 ∷ 10 ∷ []
