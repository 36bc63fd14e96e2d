-- A capture cut at a place: document 02, A3, "Cut the capture after any byte past the header: exactly the records complete
-- before the cut are listed, and the bytes left over are reported."
use Rattle.std.specs.Prelude.{None, Ok, Bool, true, false, List, [], ◌∷◌, ◌++◌, map, ◌≡◌, ℕ, ◌+◌, ◌-◌, ◌≤◌, leb, length, take, drop}
use Rattle.base.specs.Choice.{pick}
use Rattle.streams.specs.Stream.{joined}
use Rattle.capture_read.specs.declared.Record.{Record}
use Rattle.capture_read.specs.Reading.{header_size, seven_bytes, good_header, record_count, data_length, whole, stops, records_of, left_over, row_of, rows_of, end_of, stop_at, found_of, listed_of, Told}

-- Whether a record, as its place and its bytes, ends by the place k.
unfoldable pub ends_by : ℕ → ℕ × List ℕ → Bool
ends_by k r = leb (r.0 + length r.1) k

-- The longest row of first records that all end by k.
unfoldable pub up_to : ℕ → List (ℕ × List ℕ) → List (ℕ × List ℕ)
up_to k [] = []
up_to k (r ∷ rs) = pick (ends_by k r) (r ∷ up_to k rs) []

-- All records that end by k, wherever they stand in the list.
unfoldable pub kept : ℕ → List (ℕ × List ℕ) → List (ℕ × List ℕ)
kept k [] = []
kept k (r ∷ rs) = pick (ends_by k r) (r ∷ kept k rs) (kept k rs)

-- Texts one behind the other, each with its place, where the first stands at p.
unfoldable pub placed : ℕ → List (List ℕ) → List (ℕ × List ℕ)
placed p [] = []
placed p (x ∷ xs) = (p, x) ∷ placed (p + length x) xs

abbrev pub texts_of : List (ℕ × List ℕ) → List (List ℕ)
texts_of rs = map (λ r. r.1) rs

-- The bytes of all records together, their seven bytes included.
unfoldable pub bytes_in : List (ℕ × List ℕ) → ℕ
bytes_in [] = 0
bytes_in (r ∷ rs) = length r.1 + bytes_in rs

-- WHAT IS LEFT OVER of a capture: its last bytes. With the header and the records, which stand one behind the other, they
-- are the whole capture, and no whole record begins with them.
pub record LeftClaim (bs : List ℕ) : Type 0 where
  pub last : left_over bs ≡ drop (end_of bs) bs
  pub begins : end_of bs ≡ header_size + bytes_in (records_of bs)
  pub adds_up : header_size + (bytes_in (records_of bs) + length (left_over bs)) ≡ length bs
  pub bytes_are : take header_size bs ++ (joined (texts_of (records_of bs)) ++ left_over bs) ≡ bs
  pub places_are : records_of bs ≡ placed header_size (texts_of (records_of bs))
  pub partial : whole (left_over bs) ≡ false

-- THE CUT at the place k.
pub record CutClaim (bs : List ℕ) (k : ℕ) : Type 0 where
  -- the records of the cut capture are the first ones of the whole one, up to the last that ends by k; they are also all
  -- that end by k
  pub records : records_of (take k bs) ≡ up_to k (records_of bs)
  pub exactly : records_of (take k bs) ≡ kept k (records_of bs)
  pub rows : rows_of (take k bs) ≡ map row_of (up_to k (records_of bs))
  -- what the header says does not depend on the cut
  pub header : good_header (take k bs) ≡ good_header bs
  pub count : record_count (take k bs) ≡ record_count bs
  pub said : data_length (take k bs) ≡ data_length bs
  -- the bytes left over
  pub left : LeftClaim (take k bs)
  pub same_end : end_of bs ≤ k → end_of (take k bs) ≡ end_of bs
  -- a type above 3 is reported where its seven bytes are before the cut, at the same place, and nothing else is
  pub stopped : stops (left_over (take k bs)) ≡ pick (leb (end_of bs + seven_bytes) k) (stops (left_over bs)) false
  pub stop : stop_at (end_of (take k bs)) (left_over (take k bs)) ≡ pick (leb (end_of bs + seven_bytes) k) (stop_at (end_of bs) (left_over bs)) None
  -- so this is what the reader finds
  pub found : found_of (take k bs)
      ≡ record {
        records = length (kept k (records_of bs));
        bytes = bytes_in (kept k (records_of bs));
        stop = pick (leb (end_of bs + seven_bytes) k) (stop_at (end_of bs) (left_over bs)) None;
        left = k - (header_size + bytes_in (kept k (records_of bs)));
      }
  -- and, of a capture with a good header, what it lists where the lent list has room for them
  pub answered : good_header bs ≡ true → (list : List Record) → length (up_to k (records_of bs)) ≤ length list
      → Told list (take k bs) (Ok (listed_of (take k bs))) (map row_of (up_to k (records_of bs)) ++ drop (length (up_to k (records_of bs))) list)
