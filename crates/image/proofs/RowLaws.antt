-- Rows and arrays (specs/Layout): bytes begin with one exactly where each field, or each element, is as it must be.
use Rattle.image.proofs.Names.{ℕ, zero, suc, ◌+◌, ◌*◌, ◌-◌, ◌^◌, ◌<◌, ◌≤◌, suc-le-suc, ◌≡◌, refl, sym, ap, subst, ◌∙◌, Bool, true, false, true≢false, List, [], ◌∷◌, ◌++◌, map, append-nil, append_assoc, eqb, length, take, drop, get_or, replicate, length-append, length-drop, length-map, take-append-drop, drop_of_length-le, take_at, drop_at, drop-cons, drop-drop, length-take-le, mul-zero, mul-suc, add_comm, suc-ne-zero, zero-lt-suc, pow-succ', arith, eqb-true, eq-eqb, ne_eqb, byte_range, ◌and◌, all, same, bytes, number, Bytes, bytes_take, bytes_drop, bytes-number, number-bytes, same_refl, same_true, Field, num, raw, byte, zeros, field_bytes, row, flat, parts, is_alone, Every, IsByte, every_append}
use Rattle.image.proofs.PartLaws.{parts-length}

-- ── the cells of a list, one by one ──
abbrev pub spread : ℕ → List ℕ → List ℕ
spread zero s = []
spread (suc n) s = get_or s 0 0 ∷ spread n (drop 1 s)

pub spread-all : (n : ℕ) (s : List ℕ) → length s ≡ n → s ≡ spread n s
spread-all zero [] e = refl
spread-all zero (x ∷ xs) e = absurd (suc-ne-zero _ e)
spread-all (suc n) [] e = absurd (suc-ne-zero _ (sym e))
spread-all (suc n) (x ∷ xs) e = ap (λ (l : List ℕ). x ∷ l) (spread-all n xs (omega arith))

-- ── what bytes begin with: x, of k bytes, where t holds ──
pub record Begins (x b : List ℕ) (k : ℕ) (t : Bool) : Type 0 where
  pub is : (r : List ℕ) → same (x ++ r) b ≡ (t and same r (drop k b))

and_assoc : (x y z : Bool) → ((x and y) and z) ≡ (x and (y and z))
unfolding ◌and◌
and_assoc true y z = refl
and_assoc false y z = refl

pub and-end : (x : Bool) → (x and true) ≡ x
unfolding ◌and◌
and-end true = refl
and-end false = refl

pub and-true : {a b : Bool} → a ≡ true → (a and b) ≡ b
unfolding ◌and◌
and-true h = rw h

same-append : (x y xs ys : List ℕ) → length x ≡ length y → same (x ++ xs) (y ++ ys) ≡ (same x y and same xs ys)
unfolding same ◌and◌
same-append [] [] xs ys l = refl
same-append [] (b ∷ y) xs ys l = absurd (suc-ne-zero _ (sym l))
same-append (a ∷ x) [] xs ys l = absurd (suc-ne-zero _ l)
same-append (a ∷ x) (b ∷ y) xs ys l = go (eqb a b) refl (same-append x y xs ys (omega arith))
  where
    go : (t : Bool) → eqb a b ≡ t → same (x ++ xs) (y ++ ys) ≡ (same x y and same xs ys) → same (a ∷ (x ++ xs)) (b ∷ (y ++ ys)) ≡ (same (a ∷ x) (b ∷ y) and same xs ys)
    go true e ih = rw (e, same) ih
    go false e ih = rw (e, same)

begins-none : (b : List ℕ) → Begins [] b 0 true
unfolding ◌and◌
begins-none b = record { is = λ r. refl }

pub begins-part : (x b : List ℕ) (k : ℕ) → length x ≡ k → k ≤ length b → Begins x b k (same x (take k b))
begins-part x b k l h = record { is = λ r. ap (same (x ++ r)) (sym (take-append-drop k b)) ∙ same-append x (take k b) r (drop k b) (l ∙ sym (length-take-le k b h)) }

pub begins-then : {x y b : List ℕ} {k m : ℕ} {t u : Bool} → Begins x b k t → Begins y (drop k b) m u → Begins (x ++ y) b (k + m) (t and u)
begins-then {x} {y} {b} {k} {m} {t} {u} s v = record {
  is = λ r.
      ap (λ (z : List ℕ). same z b) (append_assoc x y r) ∙ s.is (y ++ r)
      ∙ ap (λ (z : Bool). t and z) (v.is r ∙ ap (λ (z : List ℕ). u and same r z) (drop-drop m k b))
      ∙ sym (and_assoc t u (same r (drop (k + m) b)));
}

pub begins-at : {x b c : List ℕ} {k : ℕ} {t : Bool} → b ≡ c → Begins x c k t → Begins x b k t
begins-at {x} {b} {c} {k} {t} e s = subst (λ (z : List ℕ). Begins x z k t) (sym e) s

pub begins-all : {x b : List ℕ} {k : ℕ} {t : Bool} → Begins x b k t → length b ≤ k → same x b ≡ t
unfolding same
begins-all {x} {b} {k} {t} s h = ap (λ (z : List ℕ). same z b) (sym (append-nil x)) ∙ s.is [] ∙ ap (λ (z : List ℕ). t and same [] z) (drop_of_length-le b h) ∙ and-end t

pub begins-only : {x b : List ℕ} {k : ℕ} {t u : Bool} → Begins x b k t → Begins x b k u → t ≡ u
begins-only {x} {b} {k} s v = sym (own s) ∙ own v
  where
    own : {t : Bool} → Begins x b k t → same (x ++ drop k b) b ≡ t
    own {t} w = w.is (drop k b) ∙ ap (λ (z : Bool). t and z) (same_refl (drop k b)) ∙ and-end t

-- ── one law for a row: each field where it lies ──
abbrev pub field_size : Field → ℕ
field_size (num n x) = n
field_size (raw n xs) = n

abbrev pub row_size : List Field → ℕ
row_size [] = 0
row_size (f ∷ fs) = field_size f + row_size fs

abbrev pub row_at : List Field → ℕ → List ℕ → Bool
row_at [] a b = true
row_at (f ∷ fs) a b = same (field_bytes f) (take (field_size f) (drop a b)) and row_at fs (a + field_size f) b

abbrev pub Sized : Field → Type 0
Sized f = length (field_bytes f) ≡ field_size f

pub row-begins : (fs : List Field) (a : ℕ) (b : List ℕ) → Every Sized fs → a + row_size fs ≤ length b → Begins (row fs) (drop a b) (row_size fs) (row_at fs a b)
unfolding row flat
row-begins [] a b w h = begins-none (drop a b)
row-begins (f ∷ fs) a b w h =
    begins-then (begins-part (field_bytes f) (drop a b) (field_size f) w.0 (omega (arith, length-drop a b)))
    (subst (λ (z : List ℕ). Begins (row fs) z (row_size fs) (row_at fs (a + field_size f) b)) (sym (drop-drop (field_size f) a b)) (row-begins fs (a + field_size f) b w.1 (omega arith)))

pub row_is : (fs : List Field) (b : List ℕ) → Every Sized fs → length b ≡ row_size fs → same (row fs) b ≡ row_at fs 0 b
row_is fs b w l =
    let z : 0 + row_size fs ≤ length b = omega arith in
    let e : length b ≤ row_size fs = omega arith in
    begins-all (row-begins fs 0 b w z) e

none : (n : ℕ) → bytes n 0 ≡ replicate n 0
unfolding bytes
none zero = refl
none (suc n) = ap (λ (x : List ℕ). 0 ∷ x) (none n)

power-above : (n : ℕ) → 0 < byte_range ^ n
power-above zero = omega arith
power-above (suc n) = omega (arith, pow-succ' byte_range n, power-above n)

turned : (n : ℕ) → eqb 0 n ≡ eqb n 0
turned zero = refl
turned (suc n) = ne_eqb 0 (suc n) (λ e. suc-ne-zero n (sym e)) ∙ sym (ne_eqb (suc n) 0 (suc-ne-zero n))

-- ── a field: its own bytes, or which number it must be ──
module _ (b : List ℕ) (a : ℕ) where
  part-size : (k : ℕ) → a + k ≤ length b → length (take k (drop a b)) ≡ k
  part-size k h = length-take-le k (drop a b) (omega (arith, length-drop a b))

  take-one : a < length b → take 1 (drop a b) ≡ get_or b a 0 ∷ []
  take-one o = ap (take 1) (drop-cons b a 0 o)

  pub own-byte : a < length b → same (get_or b a 0 ∷ []) (take 1 (drop a b)) ≡ true
  own-byte o = ap (same (get_or b a 0 ∷ [])) (take-one o) ∙ same_refl (get_or b a 0 ∷ [])

  pub byte-is : (x : ℕ) → a < length b → same (x ∷ []) (take 1 (drop a b)) ≡ eqb x (get_or b a 0)
  byte-is x o = ap (same (x ∷ [])) (take-one o) ∙ go (eqb x (get_or b a 0)) refl
    where
      go : (t : Bool) → eqb x (get_or b a 0) ≡ t → same (x ∷ []) (get_or b a 0 ∷ []) ≡ eqb x (get_or b a 0)
      go true e = unfold same in rw (e, same)
      go false e = unfold same in rw (e, same)

  module _ (k : ℕ) (h : a + k ≤ length b) (y : Bytes b) where
    pub own-number : same (bytes k (number (take k (drop a b)))) (take k (drop a b)) ≡ true
    own-number = ap (λ (x : List ℕ). same x (take k (drop a b))) (bytes-number k (take k (drop a b)) (part-size k h) (bytes_take k (drop a b) (bytes_drop a b y))) ∙ same_refl (take k (drop a b))

    pub number_is : (x : ℕ) → x < byte_range ^ k → same (bytes k x) (take k (drop a b)) ≡ eqb x (number (take k (drop a b)))
    number_is x o = go (eqb x (number (take k (drop a b)))) refl (same (bytes k x) (take k (drop a b))) refl
      where
        go : (t : Bool) → eqb x (number (take k (drop a b))) ≡ t → (u : Bool) → same (bytes k x) (take k (drop a b)) ≡ u → same (bytes k x) (take k (drop a b)) ≡ eqb x (number (take k (drop a b)))
        go true e u s = ap (λ (z : ℕ). same (bytes k z) (take k (drop a b))) (eqb-true x (number (take k (drop a b))) e) ∙ own-number ∙ sym e
        go false e true s = absurd (true≢false (sym (eq-eqb x (number (take k (drop a b))) (sym (number-bytes k x o) ∙ ap number (same_true _ _ s))) ∙ e))
        go false e false s = s ∙ sym e

    pub zeros-are : same (replicate k 0) (take k (drop a b)) ≡ eqb (number (take k (drop a b))) 0
    zeros-are = ap (λ (x : List ℕ). same x (take k (drop a b))) (sym (none k)) ∙ number_is 0 (power-above k) ∙ turned (number (take k (drop a b)))

-- a byte alone in its field, with the rest of the row as it was read
pub alone-row : (m : ℕ) (fs : List Field) (b : List ℕ) → suc m ≤ length b → Bytes b → row_at fs (1 + m) b ≡ true → row_at (byte (get_or b 0 0) ∷ zeros m ∷ fs) 0 b ≡ is_alone (suc m) b
unfolding field_bytes is_alone ◌and◌
alone-row m fs b h y r =
    let e : suc m - 1 ≡ m = omega arith in
    rw (own-byte b 0 (omega arith), zeros-are b 1 m (omega arith) y, r, e) (and-end (eqb (number (take m (drop 1 b))) 0))

pub number_small : (bs : List ℕ) → Bytes bs → number bs < byte_range ^ length bs
unfolding number
number_small [] h = omega arith
number_small (b ∷ bs) h = omega (arith, pow-succ' byte_range (length bs), h 0 (zero-lt-suc _), number_small bs (λ i o. h (suc i) (suc-le-suc o)))

pub number_fits : (b : List ℕ) (a k : ℕ) → a + k ≤ length b → Bytes b → number (take k (drop a b)) < byte_range ^ k
number_fits b a k h y = subst (λ (n : ℕ). number (take k (drop a b)) < byte_range ^ n) (part-size b a k h) (number_small (take k (drop a b)) (bytes_take k (drop a b) (bytes_drop a b y)))

-- ── every number written is a byte ──
flat-bytes : {A : Type 0} (f : A → List ℕ) (P : A → Type 0) → ((x : A) → P x → Every IsByte (f x)) → (xs : List A) → Every P xs → Every IsByte (flat f xs)
unfolding flat
flat-bytes f P g [] h = tt
flat-bytes f P g (x ∷ xs) h = every_append IsByte (f x) (flat f xs) (g x h.0) (flat-bytes f P g xs h.1)

pub row-bytes : (fs : List Field) → Every (λ (f : Field). Every IsByte (field_bytes f)) fs → Every IsByte (row fs)
unfolding row
row-bytes fs h = flat-bytes field_bytes (λ (f : Field). Every IsByte (field_bytes f)) (λ f b. b) fs h

-- ── one law for an array ──
all-and : (p : List ℕ → Bool) (x : List ℕ) (xs : List (List ℕ)) → (p x and all p xs) ≡ all p (x ∷ xs)
unfolding all ◌and◌
all-and p x xs = go (p x) refl
  where
    go : (t : Bool) → p x ≡ t → (p x and all p xs) ≡ all p (x ∷ xs)
    go true e = rw (e, all)
    go false e = rw (e, all)

module _ {A : Type 0} where
  -- elements of k bytes are written by f, read by g and tested by p
  pub record Coded (f : A → List ℕ) (g : List ℕ → A) (k : ℕ) (P : A → Type 0) (p : List ℕ → Bool) : Type 0 where
    pub long : (x : A) → P x → length (f x) ≡ k
    pub back : (x : A) → P x → g (f x) ≡ x
    pub fits : (b : List ℕ) → length b ≡ k → Bytes b → P (g b)
    pub test : (b : List ℕ) → length b ≡ k → Bytes b → same (f (g b)) b ≡ p b
    pub are : (x : A) → P x → Every IsByte (f x)

  module _ {f : A → List ℕ} {g : List ℕ → A} {k : ℕ} {P : A → Type 0} {p : List ℕ → Bool} (c : Coded f g k P p) where
    long-each : (xs : List A) → Every P xs → length (flat f xs) ≡ k * length xs
    unfolding flat
    long-each [] h = sym (mul-zero k)
    long-each (x ∷ xs) h = length-append (f x) (flat f xs) ∙ omega (arith, c.long x h.0, long-each xs h.1, mul-suc k (length xs))

    back-each : (xs : List A) (r : List ℕ) → Every P xs → map g (parts k (length xs) (flat f xs ++ r)) ≡ xs
    unfolding flat parts
    back-each [] r h = refl
    back-each (x ∷ xs) r h =
        let l : length (f x) ≡ k = c.long x h.0 in
        rw (append_assoc, take_at (f x) (flat f xs ++ r) k l, drop_at (f x) (flat f xs ++ r) k l, c.back x h.0, back-each xs r h.1)

    module _ (xs : List A) (n : ℕ) (l : length xs ≡ n) (h : Every P xs) where
      pub array_long : length (flat f xs) ≡ k * n
      array_long = long-each xs h ∙ ap (λ (m : ℕ). k * m) l

      pub array_back : (r : List ℕ) → map g (parts k n (flat f xs ++ r)) ≡ xs
      array_back r = ap (λ (m : ℕ). map g (parts k m (flat f xs ++ r))) (sym l) ∙ back-each xs r h

      pub array-last : map g (parts k n (flat f xs)) ≡ xs
      array-last = ap (λ (b : List ℕ). map g (parts k n b)) (sym (append-nil (flat f xs))) ∙ array_back []

    pub array-bytes : (xs : List A) → Every P xs → Every IsByte (flat f xs)
    array-bytes xs h = flat-bytes f P c.are xs h

    pub array-many : (n : ℕ) (b : List ℕ) → length (map g (parts k n b)) ≡ n
    array-many n b = length-map (parts k n b) g ∙ parts-length k n b

    module _ (n : ℕ) (b : List ℕ) (l : k * suc n ≤ length b) where
      one-long : length (take k b) ≡ k
      one-long = length-take-le k b (omega (arith, mul-suc k n))

      others-long : k * n ≤ length (drop k b)
      others-long = omega (arith, mul-suc k n, length-drop k b)

    pub array-fits : (n : ℕ) (b : List ℕ) → k * n ≤ length b → Bytes b → Every P (map g (parts k n b))
    unfolding parts
    array-fits zero b l y = tt
    array-fits (suc n) b l y = (c.fits (take k b) (one-long n b l) (bytes_take k b y), array-fits n (drop k b) (others-long n b l) (bytes_drop k b y))

    pub array-begins : (n : ℕ) (b : List ℕ) → k * n ≤ length b → Bytes b → Begins (flat f (map g (parts k n b))) b (k * n) (all p (parts k n b))
    unfolding flat parts all
    array-begins zero b l y = subst (λ (m : ℕ). Begins [] b m true) (sym (mul-zero k)) (begins-none b)
    array-begins (suc n) b l y =
        let t : length (take k b) ≡ k = one-long n b l in
        let x : A = g (take k b) in
        let e : same (f x) (take k b) ≡ p (take k b) = c.test (take k b) t (bytes_take k b y) in
        let s : Begins (f x) b k (p (take k b)) = subst (Begins (f x) b k) e (begins-part (f x) b k (c.long x (c.fits (take k b) t (bytes_take k b y))) (omega (arith, mul-suc k n))) in
        let v : Begins (flat f (x ∷ map g (parts k n (drop k b)))) b (k + k * n) (p (take k b) and all p (parts k n (drop k b))) = begins-then s (array-begins n (drop k b) (others-long n b l) (bytes_drop k b y)) in
        subst (λ (m : ℕ). Begins (flat f (x ∷ map g (parts k n (drop k b)))) b m (all p (parts k (suc n) b))) (add_comm k (k * n) ∙ sym (mul-suc k n))
        (subst (Begins (flat f (x ∷ map g (parts k n (drop k b)))) b (k + k * n)) (all-and p (take k b) (parts k n (drop k b))) v)
