-- 02 §11: what is claimed of exports and imports. Proved in proofs/.
use Rattle.std.specs.Prelude.{ℕ, ◌<◌, ◌≤◌, ◌≡◌, ◌↔◌, List, length, take, Ok}
use Rattle.std.proofs.Math.Option.{some}
use Rattle.model.specs.Kinds.{narrow_kind, store_size}
use Rattle.model.specs.Ranges.{Every, IsByte}
use Rattle.resp.specs.Streams.{Transaction, stream_of, CommittedSet}
use Rattle.resp.specs.Inverse.{transactions_in}
use Rattle.resp.specs.Exports.{refused, committed_set, export}
use Rattle.resp.specs.Imports.{import}

-- the bytes are the stream of this committed set
abbrev pub IsStream : List ℕ → List Transaction → Type 0
IsStream bs xs = (bs ≡ stream_of xs) × CommittedSet xs

-- "Import takes only such a stream": what is read is the committed set whose stream the bytes are, and each such stream is read
abbrev pub ReadExactly : Type 0
ReadExactly = (bs : List ℕ) (xs : List Transaction) → (transactions_in bs ≡ some xs) ↔ IsStream bs xs

-- a store's length is right
abbrev pub IsStore : List ℕ → Type 0
IsStore s = length s ≡ store_size narrow_kind

-- taken are exactly the streams of at most 64 transactions; "13: more than 64 commits, after 27" exactly those of more
abbrev pub TakenExactly : Type 0
TakenExactly = (bs s : List ℕ) → IsStore s → (n : ℕ) → ((import bs s).answer ≡ Ok n) ↔ ((xs : List Transaction) × IsStream bs xs × (length xs ≡ n) × (n ≤ narrow_kind.slots))

abbrev pub TooManyExactly : Type 0
TooManyExactly = (bs s : List ℕ) → IsStore s → ((import bs s).answer ≡ refused 13 0) ↔ ((xs : List Transaction) × IsStream bs xs × (narrow_kind.slots < length xs))

-- the greatest stream of a store, so that "65,536 bytes" always suffice
abbrev pub greatest_stream : ℕ
greatest_stream = 47808

abbrev pub StreamFits : Type 0
StreamFits = (xs : List Transaction) → CommittedSet xs → length xs ≤ narrow_kind.slots → length (stream_of xs) ≤ greatest_stream

-- "Export followed by import gives the same committed set.": the stream that an export wrote of a store of bytes, into any store
abbrev pub SameSet : Type 0
SameSet = (s t : List ℕ) (n : ℕ) → Every IsByte s → (export s t).answer ≡ Ok n → (s₂ : List ℕ) → IsStore s₂
    → ((import (take n (export s t).target) s₂).answer ≡ Ok (length (committed_set s))) × (committed_set (import (take n (export s t).target) s₂).store ≡ committed_set s)

-- "A cut one is begun again": the store after an import is the stream's alone
abbrev pub ImportedAgain : Type 0
ImportedAgain = (bs s s₂ : List ℕ) (n : ℕ) → IsStore s₂ → (import bs s).answer ≡ Ok n → import bs s₂ ≡ import bs s
