-- The proof of the claims of `Cut`.
use Rattle.std.specs.Prelude.{true, false, None, Ok, List, [], ◌∷◌, ◌++◌, map, ◌≡◌, refl, ℕ, ◌+◌, ◌-◌, ◌<◌, ◌≤◌, leb, take}
use Rattle.std.proofs.Common.{append_assoc, sym, ◌∙◌, take-append-drop, length-take-le}
use Rattle.std.proofs.Math.Path.{ap}
use native.Mathlib.Omega.{arith}
use Rattle.std.proofs.Math.ListN.{length, drop, length-drop, length-map}
use Rattle.std.proofs.Math.Seq.{take-take, drop-drop}
use borrow.Author.Tests.{leb-true, leb-false, le-leb, lt-leb, le-ltb}
use Rattle.base.specs.Both.{never}
use Rattle.base.specs.Choice.{pick, cases}
use Rattle.std.proofs.lemmas.List.{drop-take}
use Rattle.capture_read.specs.declared.Record.{Record}
use Rattle.capture_read.specs.Reading.{field, header_size, seven_bytes, good_header, record_count, data_length, type_in, length_in, size_in, whole, stops, records_from, rest_of, records_of, left_over, row_of, rows_of, end_of, stop_at, found_of, listed_of, Told}
use Rattle.capture_read.specs.Cases.{read_listed}
use Rattle.capture_read.specs.Laws.{field_append, whole_has, has_whole, size_some, field_take, records_step, records_stop, rest_step, rest_stop, by_records}
use Rattle.capture_read.specs.Append.{whole_append, rest_short, rest_partial, rest_last}
use Rattle.streams.specs.Stream.{joined}
use Rattle.read_back.specs.Cut.{ends_by, up_to, kept, placed, texts_of, bytes_in, LeftClaim, CutClaim}

-- What is behind the first m of the first n.
drop_take : (m n : ℕ) (l : List ℕ) → m ≤ n → drop m (take n l) ≡ take (n - m) (drop m l)
drop_take m n l h = let z : m + (n - m) ≡ n = omega arith in rw z at (drop-take m (n - m) l)

-- Two tests that hold of the same numbers.
same_leb : (a b c d : ℕ) → (a ≤ b → c ≤ d) → (c ≤ d → a ≤ b) → leb a b ≡ leb c d
same_leb a b c d f g = cases _ (leb a b)
    (λ e. rw e (sym (le-leb c d (f (leb-true a b e)))))
    (λ e.
    let past = leb-false a b e in
    cases _ (leb c d)
    (λ t. let back = g (leb-true c d t) in let z : ⊥ = omega arith in absurd z)
    (λ t. rw (e, t)))

-- The first record of bytes, and of the first n of them.
module _ (ds : List ℕ) (n : ℕ) where
  partial_take : whole ds ≡ false → whole (take n ds) ≡ false
  partial_take e = cases _ (whole (take n ds))
      (λ f. never (whole ds) (rw (take-append-drop n ds) at (whole_append (take n ds) (drop n ds) f)) e)
      (λ f. f)

  module _ (there : n ≤ length ds) where
    module _ (seven : seven_bytes ≤ n) where
      type_take : type_in (take n ds) ≡ type_in ds
      unfolding type_in
      type_take = field_take ds n seven there 4 1 (omega arith)

      size_take : size_in (take n ds) ≡ size_in ds
      unfolding size_in length_in
      size_take = rw (field_take ds n seven there 5 2 (omega arith))

    whole_take : whole ds ≡ true → size_in ds ≤ n → whole (take n ds) ≡ true
    whole_take e h =
        let w = whole_has ds e in
        let seven : seven_bytes ≤ n = omega (arith, size_some ds) in
        let l = length-take-le n ds there in
        let t = type_take seven in
        let s = size_take seven in
        has_whole (take n ds) (record { seven = omega arith; known = omega (arith, w.known); within = omega arith })

    cut_partial : whole ds ≡ true → n < size_in ds → whole (take n ds) ≡ false
    cut_partial e h = cases _ (whole (take n ds))
        (λ f.
        let w = whole_has (take n ds) f in
        let l = length-take-le n ds there in
        let a = w.seven in
        let b = w.within in
        let s = size_take (omega arith) in
        let z : ⊥ = omega arith in
        absurd z)
        (λ f. f)

    -- the record that both begin with, and what is behind it
    module _ (e : whole ds ≡ true) (h : size_in ds ≤ n) where
      size_cut : size_in (take n ds) ≡ size_in ds
      size_cut = size_take (omega (arith, size_some ds))

      record_cut : take (size_in (take n ds)) (take n ds) ≡ take (size_in ds) ds
      record_cut = rw size_cut (take-take (size_in ds) n ds h)

      behind_cut : drop (size_in (take n ds)) (take n ds) ≡ take (n - size_in ds) (drop (size_in ds) ds)
      behind_cut = rw size_cut (drop_take (size_in ds) n ds h)

      fewer_cut : n - size_in ds ≤ length (drop (size_in ds) ds)
      fewer_cut = rw (length-drop (size_in ds) ds) (omega arith)

size_of : (ds : List ℕ) → whole ds ≡ true → length (take (size_in ds) ds) ≡ size_in ds
size_of ds e = length-take-le (size_in ds) ds (whole_has ds e).within

-- The records one by one, against the place k.
module _ (k p : ℕ) (ds : List ℕ) (e : whole ds ≡ true) where
  first : ℕ × List ℕ
  first = (p, take (size_in ds) ds)

  behind : List (ℕ × List ℕ)
  behind = records_from (p + size_in ds) (drop (size_in ds) ds)

  up_to_here : p + size_in ds ≤ k → up_to k (records_from p ds) ≡ first ∷ up_to k behind
  unfolding up_to ends_by first behind
  up_to_here h = rw (records_step p ds e, size_of ds e, le-leb (p + size_in ds) k h)

  up_to_stop : k < p + size_in ds → up_to k (records_from p ds) ≡ []
  unfolding up_to ends_by
  up_to_stop h = rw (records_step p ds e, size_of ds e, lt-leb (p + size_in ds) k h)

  kept_here : p + size_in ds ≤ k → kept k (records_from p ds) ≡ first ∷ kept k behind
  unfolding kept ends_by first behind
  kept_here h = rw (records_step p ds e, size_of ds e, le-leb (p + size_in ds) k h)

  kept_next : k < p + size_in ds → kept k (records_from p ds) ≡ kept k behind
  unfolding kept ends_by behind
  kept_next h = rw (records_step p ds e, size_of ds e, lt-leb (p + size_in ds) k h)

up_to_none : (k : ℕ) → up_to k [] ≡ []
unfolding up_to
up_to_none k = refl

kept_none : (k : ℕ) → kept k [] ≡ []
unfolding kept
kept_none k = refl

records_cut : (ds : List ℕ) (p n : ℕ) → n ≤ length ds → records_from p (take n ds) ≡ up_to (p + n) (records_from p ds)
unfolding first behind
records_cut = by_records (λ ds. (p n : ℕ) → n ≤ length ds → records_from p (take n ds) ≡ up_to (p + n) (records_from p ds))
    (λ ds e p n there. rw (records_stop p ds e, records_stop p (take n ds) (partial_take ds n e)) (sym (up_to_none (p + n))))
    (λ ds e h p n there. cases _ (leb (size_in ds) n)
    (λ b.
    let fits = leb-true (size_in ds) n b in
    let z : (p + size_in ds) + (n - size_in ds) ≡ p + n = omega arith in
    let again = rw z at (h (p + size_in ds) (n - size_in ds) (fewer_cut ds n there e fits)) in
    rw (
      up_to_here (p + n) p ds e (omega arith),
      records_step p (take n ds) (whole_take ds n there e fits),
      record_cut ds n there e fits,
      behind_cut ds n there e fits,
      size_cut ds n there e fits,
      again,
    ))
    (λ b.
    let past = leb-false (size_in ds) n b in
    rw (up_to_stop (p + n) p ds e (omega arith), records_stop p (take n ds) (cut_partial ds n there e past))))

-- Behind a record that does not end by k there is none that does.
none_kept : (ds : List ℕ) (p k : ℕ) → k < p → kept k (records_from p ds) ≡ []
unfolding behind
none_kept = by_records (λ ds. (p k : ℕ) → k < p → kept k (records_from p ds) ≡ [])
    (λ ds e p k past. rw (records_stop p ds e) (kept_none k))
    (λ ds e h p k past.
    rw (kept_next k p ds e (omega arith)) (h (p + size_in ds) k (omega arith)))

up_to_kept : (ds : List ℕ) (p k : ℕ) → up_to k (records_from p ds) ≡ kept k (records_from p ds)
unfolding first behind
up_to_kept = by_records (λ ds. (p k : ℕ) → up_to k (records_from p ds) ≡ kept k (records_from p ds))
    (λ ds e p k. rw (records_stop p ds e, kept_none k) (up_to_none k))
    (λ ds e h p k.
    cases _ (leb (p + size_in ds) k)
    (λ b.
    let by = leb-true (p + size_in ds) k b in
    rw (up_to_here k p ds e by, kept_here k p ds e by, h (p + size_in ds) k))
    (λ b.
    let past = leb-false (p + size_in ds) k b in
    rw (up_to_stop k p ds e past, kept_next k p ds e past) (sym (none_kept (drop (size_in ds) ds) (p + size_in ds) k past))))

-- The records, one behind the other, and the bytes left over are all the bytes.
bytes_add : (ds : List ℕ) (p : ℕ) → bytes_in (records_from p ds) + length (rest_of ds) ≡ length ds
unfolding bytes_in
bytes_add = by_records (λ ds. (p : ℕ) → bytes_in (records_from p ds) + length (rest_of ds) ≡ length ds)
    (λ ds e p. rw (records_stop p ds e, rest_stop ds e) (omega arith))
    (λ ds e h p.
    let w = (whole_has ds e).within in
    let l = length-drop (size_in ds) ds in
    rw (records_step p ds e, rest_step ds e, size_of ds e) (omega (arith, h (p + size_in ds))))

texts_join : (ds : List ℕ) (p : ℕ) → joined (texts_of (records_from p ds)) ++ rest_of ds ≡ ds
unfolding joined
texts_join = by_records (λ ds. (p : ℕ) → joined (texts_of (records_from p ds)) ++ rest_of ds ≡ ds)
    (λ ds e p. rw (records_stop p ds e) (rest_stop ds e))
    (λ ds e h p. rw (records_step p ds e, rest_step ds e, append_assoc, h (p + size_in ds)) (take-append-drop (size_in ds) ds))

texts_placed : (ds : List ℕ) (p : ℕ) → records_from p ds ≡ placed p (texts_of (records_from p ds))
unfolding placed
texts_placed = by_records (λ ds. (p : ℕ) → records_from p ds ≡ placed p (texts_of (records_from p ds)))
    (λ ds e p. rw (records_stop p ds e))
    (λ ds e h p. rw (records_step p ds e, size_of ds e) (ap (λ (rs : List (ℕ × List ℕ)). (p, take (size_in ds) ds) ∷ rs) (h (p + size_in ds))))

-- Where the bytes left over begin: behind the first record as far as in what follows it.
end_step : (ds : List ℕ) → whole ds ≡ true → length ds - length (rest_of ds) ≡ size_in ds + (length (drop (size_in ds) ds) - length (rest_of (drop (size_in ds) ds)))
end_step ds e =
    let w = (whole_has ds e).within in
    let l = length-drop (size_in ds) ds in
    let s = rest_short (drop (size_in ds) ds) in
    rw (rest_step ds e) (omega arith)

rest_cut : (ds : List ℕ) (n : ℕ) → n ≤ length ds → whole ds ≡ true → size_in ds ≤ n → rest_of (take n ds) ≡ rest_of (take (n - size_in ds) (drop (size_in ds) ds))
rest_cut ds n there e fits = rest_step (take n ds) (whole_take ds n there e fits) ∙ ap rest_of (behind_cut ds n there e fits)

end_cut : (ds : List ℕ) (n : ℕ) → n ≤ length ds → length ds - length (rest_of ds) ≤ n → n - length (rest_of (take n ds)) ≡ length ds - length (rest_of ds)
end_cut = by_records (λ ds. (n : ℕ) → n ≤ length ds → length ds - length (rest_of ds) ≤ n → n - length (rest_of (take n ds)) ≡ length ds - length (rest_of ds))
    (λ ds e n there by. let l = length-take-le n ds there in rw (rest_stop ds e, rest_stop (take n ds) (partial_take ds n e)) (omega arith))
    (λ ds e h n there by.
    let z = end_step ds e in
    let fits : size_in ds ≤ n = omega arith in
    let m = n - size_in ds in
    let few = fewer_cut ds n there e fits in
    let l = length-take-le m (drop (size_in ds) ds) few in
    let s = rest_short (take m (drop (size_in ds) ds)) in
    let again = h m few (omega arith) in
    rw (rest_cut ds n there e fits, z) (omega arith))

-- A type above 3 that ends the list: where its seven bytes are within the first n.
stops_seven : (ds : List ℕ) (n : ℕ) → n ≤ length ds → stops (take n ds) ≡ pick (leb seven_bytes n) (stops ds) false
unfolding stops
stops_seven ds n there = cases _ (leb seven_bytes n)
    (λ b.
    let seven = leb-true seven_bytes n b in
    rw (length-take-le n ds there, b, le-leb seven_bytes (length ds) (omega arith), type_take ds n there seven))
    (λ b. rw (length-take-le n ds there, b))

known_stops_not : (ds : List ℕ) → type_in ds ≤ 3 → stops ds ≡ false
unfolding stops
known_stops_not ds h = rw (le-ltb 3 (type_in ds) h) (cases _ (leb seven_bytes (length ds)) (λ b. rw b) (λ b. rw b))

stops_cut : (ds : List ℕ) (n : ℕ) → n ≤ length ds
    → stops (rest_of (take n ds)) ≡ pick (leb (length ds - length (rest_of ds) + seven_bytes) n) (stops (rest_of ds)) false
stops_cut = by_records (λ ds. (n : ℕ) → n ≤ length ds
    → stops (rest_of (take n ds)) ≡ pick (leb (length ds - length (rest_of ds) + seven_bytes) n) (stops (rest_of ds)) false)
    (λ ds e n there.
    let z : length ds - length ds + seven_bytes ≡ seven_bytes = omega arith in
    rw (rest_stop ds e, rest_stop (take n ds) (partial_take ds n e), z) (stops_seven ds n there))
    (λ ds e h n there.
    let z = end_step ds e in
    cases _ (leb (size_in ds) n)
    (λ b.
    let fits = leb-true (size_in ds) n b in
    let behind = drop (size_in ds) ds in
    rw (
      z,
      rest_cut ds n there e fits,
      shift (size_in ds) (length behind - length (rest_of behind)) n fits,
      rest_step ds e,
    ) (h (n - size_in ds) (fewer_cut ds n there e fits)))
    (λ b.
    let past = leb-false (size_in ds) n b in
    let w = (whole_has ds e).known in
    rw (
      rest_stop (take n ds) (cut_partial ds n there e past),
      lt-leb (length ds - length (rest_of ds) + seven_bytes) n (omega arith),
      stops_seven ds n there,
      known_stops_not ds w,
    ) (cases _ (leb seven_bytes n) (λ d. rw d) (λ d. rw d))))
  where
    shift : (a b n : ℕ) → a ≤ n → leb (a + b + seven_bytes) n ≡ leb (b + seven_bytes) (n - a)
    shift a b n h = same_leb (a + b + seven_bytes) n (b + seven_bytes) (n - a) (λ t. omega arith) (λ t. omega arith)

-- A capture's header and what is behind it.
module _ (bs : List ℕ) (long : header_size ≤ length bs) where
  end_is : end_of bs ≡ header_size + (length (drop header_size bs) - length (rest_of (drop header_size bs)))
  unfolding end_of left_over
  end_is =
      let l = length-drop header_size bs in
      let s = rest_short (drop header_size bs) in
      omega arith

  -- THE BYTES LEFT OVER.
  pub left_claim : LeftClaim bs
  unfolding records_of left_over
  left_claim =
      let l = length-drop header_size bs in
      let ds = drop header_size bs in
      record {
        last = rest_last ds ∙ drop-drop (length ds - length (rest_of ds)) header_size bs ∙ ap (λ (n : ℕ). drop n bs) (sym end_is);
        begins = omega (arith, end_is, bytes_add ds header_size);
        adds_up = omega (arith, bytes_add ds header_size);
        bytes_are = rw (texts_join ds header_size) (take-append-drop header_size bs);
        places_are = texts_placed ds header_size;
        partial = rest_partial ds;
      }

module _ (bs : List ℕ) (k : ℕ) (past : header_size ≤ k) (there : k ≤ length bs) where
  reach : ℕ
  reach = k - header_size

  body : List ℕ
  body = drop header_size bs

  behind_header : drop header_size (take k bs) ≡ take reach body
  unfolding reach body
  behind_header = drop_take header_size k bs past

  reach_there : reach ≤ length body
  unfolding reach body
  reach_there = rw (length-drop header_size bs) (omega arith)

  reach_is : header_size + reach ≡ k
  unfolding reach
  reach_is = omega arith

  cut_length : length (take k bs) ≡ k
  cut_length = length-take-le k bs there

  cut_records : records_of (take k bs) ≡ up_to k (records_of bs)
  unfolding records_of body
  cut_records = rw behind_header (rw reach_is at (records_cut body header_size reach reach_there))

  cut_exactly : up_to k (records_of bs) ≡ kept k (records_of bs)
  unfolding records_of
  cut_exactly = up_to_kept (drop header_size bs) header_size k

  header_field : (i m : ℕ) → i + m ≤ header_size → field i m (take k bs) ≡ field i m bs
  header_field i m h =
      let l = cut_length in
      sym (field_append i m (take k bs) (drop k bs) (omega arith)) ∙ ap (field i m) (take-append-drop k bs)

  cut_header : good_header (take k bs) ≡ good_header bs
  unfolding good_header
  cut_header =
      rw (
        cut_length,
        le-leb header_size k past,
        le-leb header_size (length bs) (omega arith),
        take-take 8 k bs (omega arith),
        header_field 8 2 (omega arith),
        header_field 10 2 (omega arith),
      )

  cut_count : record_count (take k bs) ≡ record_count bs
  unfolding record_count
  cut_count = header_field 12 4 (omega arith)

  cut_said : data_length (take k bs) ≡ data_length bs
  unfolding data_length
  cut_said = header_field 16 4 (omega arith)

  whole_end : end_of bs ≡ header_size + (length body - length (rest_of body))
  unfolding body
  whole_end = end_is bs (omega arith)

  cut_end : end_of (take k bs) ≡ header_size + (reach - length (rest_of (take reach body)))
  cut_end =
      let l = cut_length in
      let a = length-take-le reach body reach_there in
      let e : end_of (take k bs) ≡ header_size + (length (take reach body) - length (rest_of (take reach body))) = rw behind_header at (end_is (take k bs) (omega arith)) in
      omega arith

  cut_same_end : end_of bs ≤ k → end_of (take k bs) ≡ end_of bs
  cut_same_end h =
      let w = whole_end in
      let c = cut_end in
      let z = reach_is in
      let e = end_cut body reach reach_there (omega arith) in
      omega arith

  same_test : leb (end_of bs + seven_bytes) k ≡ leb (length body - length (rest_of body) + seven_bytes) reach
  same_test =
      let w = whole_end in
      let z = reach_is in
      same_leb (end_of bs + seven_bytes) k (length body - length (rest_of body) + seven_bytes) reach (λ t. omega arith) (λ t. omega arith)

  cut_stops : stops (left_over (take k bs)) ≡ pick (leb (end_of bs + seven_bytes) k) (stops (left_over bs)) false
  unfolding left_over body
  cut_stops = rw (behind_header, same_test) (stops_cut body reach reach_there)

  cut_stop : stop_at (end_of (take k bs)) (left_over (take k bs)) ≡ pick (leb (end_of bs + seven_bytes) k) (stop_at (end_of bs) (left_over bs)) None
  unfolding stop_at
  cut_stop = cases _ (leb (end_of bs + seven_bytes) k)
      (λ e. let t = leb-true (end_of bs + seven_bytes) k e in rw (cut_stops, cut_same_end (omega arith), e))
      (λ e. rw (cut_stops, e))

  cut_left : LeftClaim (take k bs)
  cut_left = left_claim (take k bs) (let l = cut_length in omega arith)

  cut_kept : records_of (take k bs) ≡ kept k (records_of bs)
  cut_kept = cut_records ∙ cut_exactly

  kept_bytes_law : bytes_in (records_of (take k bs)) ≡ bytes_in (kept k (records_of bs))
  kept_bytes_law = ap bytes_in cut_kept

  found_records : length (rows_of (take k bs)) ≡ length (kept k (records_of bs))
  unfolding rows_of
  found_records = length-map (records_of (take k bs)) row_of ∙ ap length cut_kept

  found_bytes : end_of (take k bs) - header_size ≡ bytes_in (kept k (records_of bs))
  found_bytes =
      let e = cut_left.begins in
      let z = kept_bytes_law in
      omega arith

  found_left : length (left_over (take k bs)) ≡ k - (header_size + bytes_in (kept k (records_of bs)))
  found_left =
      let e = cut_left.adds_up in
      let l = cut_length in
      let z = kept_bytes_law in
      omega arith

  cut_found : found_of (take k bs)
      ≡ record {
        records = length (kept k (records_of bs));
        bytes = bytes_in (kept k (records_of bs));
        stop = pick (leb (end_of bs + seven_bytes) k) (stop_at (end_of bs) (left_over bs)) None;
        left = k - (header_size + bytes_in (kept k (records_of bs)));
      }
  unfolding found_of
  cut_found = rw (found_records, found_bytes, cut_stop, found_left)

  -- THE CUT.
  cut_rows : rows_of (take k bs) ≡ map row_of (up_to k (records_of bs))
  unfolding rows_of
  cut_rows = ap (map row_of) cut_records

  cut_answered : good_header bs ≡ true → (list : List Record) → length (up_to k (records_of bs)) ≤ length list
      → Told list (take k bs) (Ok (listed_of (take k bs))) (map row_of (up_to k (records_of bs)) ++ drop (length (up_to k (records_of bs))) list)
  cut_answered e list h =
      let n = length-map (up_to k (records_of bs)) row_of in
      rw (cut_rows, n) at (read_listed list (take k bs) (cut_header ∙ e) (rw (cut_rows, n) h))

  pub cut_claim : CutClaim bs k
  cut_claim =
      record {
        records = cut_records;
        exactly = cut_kept;
        rows = cut_rows;
        header = cut_header;
        count = cut_count;
        said = cut_said;
        left = cut_left;
        same_end = cut_same_end;
        stopped = cut_stops;
        stop = cut_stop;
        found = cut_found;
        answered = cut_answered;
      }
