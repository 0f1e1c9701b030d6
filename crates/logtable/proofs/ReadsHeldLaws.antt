-- The reads of a place, with one more: the read of a key again, in the version that was read, or a new word at the end.
use Prim.Native.Nat.{ℕ, ◌<◌}
use mathlib.Core.Path.{◌≡◌, refl, sym, ap, ◌∙◌}
use mathlib.Core.Logic.{◌≢◌, ⊎_elim}
use mathlib.Core.List.Memᴰ
use mathlib.Core.List.{List, [], ◌∷◌, ◌++◌, Memᴰ}
use native.Mathlib.Omega.{arith}
use Rattle.model.specs.declared.Read.{Read}
use Rattle.logtable.specs.Tables.{txn_at, clock_at, key_of, author_of, read_word, id_at}
use Rattle.logtable.specs.Holds.{ReadsHeld}

pub reads-again : (T xs : List ℕ) (rs : List Read) (r : Read) → Memᴰ r rs → ReadsHeld T xs rs → ReadsHeld T xs (r ∷ rs)
reads-again T xs rs r m h = record {
  listed = λ q w. ⊎_elim (λ e. rw e (h.listed r m)) (λ v. h.listed q v) (Memᴰ.cases_cons w);
  said = λ x w. Memᴰ.tail (h.said x w);
  authors = h.authors;
  words = h.words;
}

-- the key and the author of a word
word-key : (k a : ℕ) → k < 64 → key_of (read_word k a) ≡ k
word-key k a o = omega arith

word-author : (k a : ℕ) → k < 64 → a < 64 → author_of (read_word k a) ≡ a
word-author k a o u = omega arith

-- the read that a word says
pub word_read : (T : List ℕ) (k a : ℕ) → k < 64 → a < 64 → (x : ℕ) → x ≡ read_word k a
    → ◌≡◌ {A = Read} (record { key = key_of x; id = id_at T (author_of x) }) (record { key = k; id = id_at T a })
word_read T k a o u x e = λ j. record { key = (ap key_of e ∙ word-key k a o) j; id = (ap (λ (b : ℕ). id_at T b) (ap author_of e ∙ word-author k a o u)) j }

word-whole : (k a : ℕ) → k < 64 → a < 64 → (x : ℕ) → x ≡ read_word k a → x ≡ read_word (key_of x) (author_of x)
word-whole k a o u x e = omega arith

pub reads_more : (T xs : List ℕ) (rs : List Read) (k a : ℕ) → k < 64 → a < 64 → txn_at T a ≢ 0 → clock_at T a ≢ 0 → ReadsHeld T xs rs
    → ReadsHeld T (xs ++ (read_word k a ∷ [])) (record { key = k; id = id_at T a } ∷ rs)
reads_more T xs rs k a o u n z h = record {
  listed = λ r w. ⊎_elim
      (λ e. (read_word k a, last, word-key k a o ∙ sym (ap (λ (q : Read). q.key) e), ap (id_at T) (word-author k a o u) ∙ sym (ap (λ (q : Read). q.id) e)))
      (λ v. let x = h.listed r v in (x.0, Memᴰ.append_left _ x.1, x.2, x.3)) (Memᴰ.cases_cons w);
  said = λ x w. ⊎_elim (λ v. Memᴰ.tail (h.said x v)) (λ v. Memᴰ.head (word_read T k a o u x (Memᴰ.eq_of_singleton v))) (Memᴰ.append_cases xs w);
  authors = λ x w. ⊎_elim (λ v. h.authors x v)
      (λ v. let e : author_of x ≡ a = ap author_of (Memᴰ.eq_of_singleton v) ∙ word-author k a o u in rw e (n, z)) (Memᴰ.append_cases xs w);
  words = λ x w. ⊎_elim (λ v. h.words x v) (λ v. word-whole k a o u x (Memᴰ.eq_of_singleton v)) (Memᴰ.append_cases xs w);
}
  where
    last : Memᴰ (read_word k a) (xs ++ (read_word k a ∷ []))
    last = Memᴰ.append_right xs (Memᴰ.head refl)
