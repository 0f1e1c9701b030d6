-- What is kept of a line whose bytes come in blocks: its first 65 bytes.
use Prim.Native.Nat.{ℕ, zero, suc, ◌+◌, ◌-◌, ◌≤◌, ◌<◌, min}
use mathlib.Core.Path.{◌≡◌, refl, sym, ap, ◌∙◌}
use mathlib.Core.List.{List, [], ◌∷◌, ◌++◌, append-nil, append_assoc}
use lib.ListN.{length, take, length-append, length-take}
use lib.Seq.{take_all, length-take-le, take-append-add}
use native.Mathlib.Omega.{arith}
use native.Mathlib.Decide.{dec_lt}
use borrow.Rule.Slice.PartMut.{put_mid}
use Rattle.std.proofs.lemmas.List.{take-take, take_min}
use Rattle.std.proofs.lemmas.Slice.{take-put_mid}
use Rattle.lines.specs.Lines.{first_line}
use Rattle.lines.specs.Kept.{joined, joined_with}
use Rattle.lines.proofs.StopLaws.{first_taken}

-- they say what all bytes say, where all longer lines say one thing
pub kept-says : {A : Type 0} (f : List ℕ → A) (x : A) → ((l : List ℕ) → 64 < length l → f l ≡ x) → (l : List ℕ) → f (take 65 l) ≡ f l
kept-says {A} f x long l = go (dec_lt 64 (length l))
  where
    go : Dec (64 < length l) → f (take 65 l) ≡ f l
    go (yes h) = long (take 65 l) (simp length-take (omega arith)) ∙ sym (long l h)
    go (no h) = let o : length l ≤ 65 = omega (arith, h) in ap f (take_all 65 l o)

-- a byte joins what is kept as it joins the whole
taken-joined : (n : ℕ) (l : List ℕ) (b : ℕ) → take n (take n l ++ (b ∷ [])) ≡ take n (l ++ (b ∷ []))
taken-joined zero l b = refl
taken-joined (suc n) [] b = refl
taken-joined (suc n) (x ∷ xs) b = ap (λ (l : List ℕ). x ∷ l) (taken-joined n xs b)

pub kept-joined : (l : List ℕ) (b : ℕ) → joined (take 65 l) b ≡ take 65 (l ++ (b ∷ []))
unfolding joined
kept-joined l b = taken-joined 65 l b

-- and so do several
pub kept-all : (p l : List ℕ) → joined_with (take 65 p) l ≡ take 65 (p ++ l)
unfolding joined_with
kept-all p [] = ap (take 65) (sym (append-nil p))
kept-all p (b ∷ bs) = ap (λ (q : List ℕ). joined_with q bs) (kept-joined p b) ∙ kept-all (p ++ (b ∷ [])) bs ∙ ap (take 65) (append_assoc p (b ∷ []) bs)

-- of a line all bytes are kept for which there is room
kept-room : (p line : List ℕ) → length p ≤ 65 → joined_with p line ≡ p ++ take (65 - length p) line
kept-room p line h =
    let q : 65 ≡ length p + (65 - length p) = omega arith in
    ap (λ (l : List ℕ). joined_with l line) (sym (take_all 65 p h)) ∙ kept-all p line ∙ ap (λ (n : ℕ). take n (p ++ line)) q ∙ take-append-add p line (65 - length p)

-- so many bytes copied after those that are kept
pub filled : (part bs now : List ℕ) (len k n j : ℕ) → length part ≡ 65 → len ≤ 65 → k ≡ min (65 - len) (length (first_line bs)) → now ≡ take k bs → length now ≡ k → n ≡ len + k
    → take n (put_mid len j part now) ≡ joined_with (take len part) (first_line bs)
filled part bs now len k n j hp hl hk e hn q =
    let line = first_line bs in
    let lp : length (take len part) ≡ len = length-take-le len part (omega arith) in
    let room : take k line ≡ take (65 - length (take len part)) line =
    ap (λ (m : ℕ). take m line) hk ∙ take_min (65 - len) line ∙ ap (λ (m : ℕ). take (65 - m) line) (sym lp) in
    let same : now ≡ take k line = e ∙ sym (ap (take k) (first_taken bs) ∙ take-take k (length line) bs (omega arith)) in
    take-put_mid len j part now n (omega arith) (omega arith) ∙ ap (λ (l : List ℕ). take len part ++ l) (same ∙ room) ∙ sym (kept-room (take len part) line (omega arith))

-- no more bytes are kept than came
joined-within : (l xs : List ℕ) → length (joined_with l xs) ≤ length l + length xs
unfolding joined_with joined
joined-within l [] = omega arith
joined-within l (b ∷ bs) =
    let h : length (take 65 (l ++ (b ∷ []))) ≤ length l + 1 = simp (length-take, length-append) (omega arith) in
    omega (arith, joined-within (take 65 (l ++ (b ∷ []))) bs)

pub kept-within : (p q : List ℕ) (len m : ℕ) (xs : List ℕ) → length p ≡ 65 → len ≤ 65 → length q ≡ 65 → m ≤ 65 → take m q ≡ joined_with (take len p) xs → m ≤ len + length xs
kept-within p q len m xs hp hl hq hm e =
    omega (arith, joined-within (take len p) xs, ap length e, length-take-le len p (omega arith), length-take-le m q (omega arith))
