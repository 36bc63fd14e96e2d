-- The proof of the claim of `Trip`.
use Rattle.std.specs.Prelude.{true, false, List, [], ◌∷◌, ◌++◌, None, Ok, Err, map, ◌≡◌, ℕ, suc, ◌+◌, ◌-◌, ◌%◌, ◌^◌, ◌≤◌, ltb, take, drop}
use Rattle.std.proofs.Common.{append_assoc, append-nil, sym, ◌∙◌, drop_at}
use Rattle.std.proofs.Math.Path.{refl, ap}
use native.Mathlib.Omega.{arith}
use Rattle.std.proofs.Math.ListN.{length, length-append, length-take, length-replicate}
use Rattle.std.proofs.Math.Seq.{length-take-le, take-length, take-append_seam, drop-append_seam}
use borrow.Author.Tests.{le-leb, ltb-false}
use Rattle.base.specs.Both.{never}
use Rattle.base.specs.Choice.{cases}
use Rattle.base.specs.Write.{over, over_length, take_over}
use Rattle.text.specs.Cut.{same_of}
use Rattle.capture.specs.declared.Recorder.{Recorder}
use Rattle.capture.specs.declared.Recorded.TheVariants.{Written, Overflow}
use Rattle.capture.specs.declared.RecordError.TheVariants.{UnknownKind, TooLong}
use Rattle.capture.specs.declared.Appended.{Appended}
use Rattle.capture.specs.Format.{le, record_bytes, fits_in, marked, grown, appended, recorded_of, buffer_of, magic, firmware_text, count_bytes, header_of, empty_recorder, Room}
use Rattle.capture.specs.Laws.{le_length, fits_room}
use Rattle.capture_read.specs.declared.Record.{Record}
use Rattle.capture_read.specs.Reading.{unle, field, header_size, seven_bytes, good_header, record_count, data_length, time_in, type_in, length_in, data_in, size_in, whole, stops, records_from, rest_of, records_of, left_over, row_in, row_of, rows_of, end_of, stop_at, found_of, listed_of, Told}
use Rattle.capture_read.specs.Cases.{read_listed}
use Rattle.capture_read.specs.Laws.{has_whole, records_step, records_stop, rest_step, rest_stop}
use Rattle.capture_read.specs.Append.{type_append, size_append}
use Rattle.streams.specs.Stream.{joined}
use Rattle.read_back.specs.Cut.{placed}
use Rattle.read_back.specs.Trip.{RecordCall, recorder_then, buffer_then, answer_of, recorder_after, buffer_after, is_written, written_in, text_of, row_for, rows_at, recorder_of, written_of, capture_with, ReadBack, TripClaim}

-- A number of two bytes and one of four, written and read.
unle_le_two : (x : ℕ) → x ≤ 65535 → unle (le 2 x) ≡ x
unfolding unle le
unle_le_two x h = omega arith

unle_le_four : (x : ℕ) → x ≤ 4294967295 → unle (le 4 x) ≡ x
unfolding unle le
unle_le_four x h = omega arith

-- ONE RECORD, as it is read.
module _ (c : RecordCall) where
  text_length : length (text_of c) ≡ seven_bytes + length c.bytes
  unfolding record_bytes le
  text_length = omega arith

  text_time : time_in (text_of c) ≡ c.elapsed % 2 ^ 32
  unfolding record_bytes time_in field le
  text_time = unle_le_four (c.elapsed % 2 ^ 32) (omega arith)

  text_type : type_in (text_of c) ≡ c.kind
  unfolding record_bytes type_in field le unle
  text_type = omega arith

  module _ (short : length c.bytes ≤ 65535) where
    text_count : length_in (text_of c) ≡ length c.bytes
    unfolding record_bytes length_in field le
    text_count = unle_le_two (length c.bytes) short

    behind_seven : drop seven_bytes (text_of c) ≡ c.bytes
    unfolding record_bytes le
    behind_seven = refl

    text_data : data_in (text_of c) ≡ c.bytes
    unfolding data_in
    text_data = rw (text_count, behind_seven) (take-length c.bytes)

    text_row : (p : ℕ) → row_in p (text_of c) ≡ row_for p c
    unfolding row_in
    text_row p = rw (text_time, text_type, text_count)

    text_size : size_in (text_of c) ≡ length (text_of c)
    unfolding size_in
    text_size = rw (text_count, text_length)

    -- and with others behind it
    module _ (known : c.kind ≤ 3) (rest : List ℕ) where
      text_seven : seven_bytes ≤ length (text_of c)
      text_seven = let l = text_length in omega arith

      text_size_there : size_in (text_of c ++ rest) ≡ length (text_of c)
      text_size_there = size_append (text_of c) rest text_seven ∙ text_size

      text_whole : whole (text_of c ++ rest) ≡ true
      text_whole =
          let l = length-append (text_of c) rest in
          let t = type_append (text_of c) rest text_seven in
          let k = text_type in
          let s = text_size_there in
          let h = text_seven in
          has_whole (text_of c ++ rest) (record { seven = omega arith; known = omega arith; within = omega arith })

      text_first : (p : ℕ) → records_from p (text_of c ++ rest) ≡ (p, text_of c) ∷ records_from (p + length (text_of c)) rest
      text_first p =
          rw (
            records_step p (text_of c ++ rest) text_whole,
            text_size_there,
            take-append_seam (text_of c) rest,
            drop-append_seam (text_of c) rest,
          )

      text_rest : rest_of (text_of c ++ rest) ≡ rest_of rest
      text_rest = rw (rest_step (text_of c ++ rest) text_whole, text_size_there, drop-append_seam (text_of c) rest)

-- ONE CALL: what a call whose record is written has, and what another leaves.
record Put (r : Recorder) (buf : List ℕ) (c : RecordCall) : Type 0 where
  known : c.kind ≤ 3
  short : length c.bytes ≤ 65535
  room : Room r (length buf) (length c.bytes)
  recorder_is : recorder_then r buf c ≡ grown r (length c.bytes)
  buffer_is : buffer_then r buf c ≡ over buf r.fill (text_of c)

record Left (r : Recorder) (buf : List ℕ) (c : RecordCall) : Type 0 where
  fill_is : (recorder_then r buf c).fill ≡ r.fill
  records_is : (recorder_then r buf c).records ≡ r.records
  buffer_is : buffer_then r buf c ≡ buf

-- The one or the other, by what the call answers.
data Went (r : Recorder) (buf : List ℕ) (c : RecordCall) : Type 0 where
  wrote : is_written (answer_of r buf c) ≡ true → Put r buf c → Went r buf c
  aside : is_written (answer_of r buf c) ≡ false → Left r buf c → Went r buf c

module _ (r : Recorder) (buf : List ℕ) (c : RecordCall) where
  went_aside : (x : Appended) → recorded_of r buf c.kind c.bytes ≡ x → buffer_then r buf c ≡ buf → x.recorder.fill ≡ r.fill
      → x.recorder.records ≡ r.records → is_written x.outcome ≡ false → Went r buf c
  went_aside x e b f n o =
      aside (ap (λ (y : Appended). is_written y.outcome) e ∙ o)
      (record {
        fill_is = ap (λ (y : Appended). y.recorder.fill) e ∙ f;
        records_is = ap (λ (y : Appended). y.recorder.records) e ∙ n;
        buffer_is = b;
      })

  went : Went r buf c
  unfolding recorded_of buffer_of is_written
  went = cases _ (ltb 3 c.kind)
      (λ a. went_aside (appended r (Err UnknownKind)) (rw a) (rw a) refl refl refl)
      (λ a. cases _ (ltb 65535 (length c.bytes))
      (λ b. went_aside (appended r (Err TooLong)) (rw (a, b)) (rw (a, b)) refl refl refl)
      (λ b. cases _ (fits_in r (length buf) (length c.bytes))
      (λ f.
      let e : recorded_of r buf c.kind c.bytes ≡ appended (grown r (length c.bytes)) (Ok Written) = rw (a, b, f) in
      wrote (ap (λ (x : Appended). is_written x.outcome) e)
      (record {
        known = ltb-false 3 c.kind a;
        short = ltb-false 65535 (length c.bytes) b;
        room = fits_room r (length buf) (length c.bytes) f;
        recorder_is = ap (λ (x : Appended). x.recorder) e;
        buffer_is = rw (a, b, f);
      }))
      (λ f. went_aside (appended (marked r) (Ok Overflow)) (rw (a, b, f)) (rw (a, b, f)) refl refl refl)))

  put : is_written (answer_of r buf c) ≡ true → Put r buf c
  put e = elim went [ wrote i p ↦ p | aside i l ↦ never _ e i ]

  left : is_written (answer_of r buf c) ≡ false → Left r buf c
  left e = elim went [ wrote i p ↦ never _ i e | aside i l ↦ l ]

  written_here : (cs : List RecordCall) → is_written (answer_of r buf c) ≡ true
      → written_in r buf (c ∷ cs) ≡ c ∷ written_in (recorder_then r buf c) (buffer_then r buf c) cs
  unfolding written_in
  written_here cs e = rw e

  written_next : (cs : List RecordCall) → is_written (answer_of r buf c) ≡ false
      → written_in r buf (c ∷ cs) ≡ written_in (recorder_then r buf c) (buffer_then r buf c) cs
  unfolding written_in
  written_next cs e = rw e

-- Something shown of the calls that are written, one by one.
by_written : (P : List RecordCall → Type 0) → P []
    → ((c : RecordCall) (cs : List RecordCall) → c.kind ≤ 3 → length c.bytes ≤ 65535 → P cs → P (c ∷ cs))
    → (r : Recorder) (buf : List ℕ) (calls : List RecordCall) → P (written_in r buf calls)
unfolding written_in
by_written P none more r buf [] = none
by_written P none more r buf (c ∷ cs) =
    let again = by_written P none more (recorder_then r buf c) (buffer_then r buf c) cs in
    cases _ (is_written (answer_of r buf c))
    (λ e. let w = put r buf c e in rw e (more c (written_in (recorder_then r buf c) (buffer_then r buf c) cs) w.known w.short again))
    (λ e. rw e again)

-- MANY CALLS. The recorder's numbers fit its buffer and four bytes.
record Fits (r : Recorder) (buf : List ℕ) : Type 0 where
  within : r.fill ≤ length buf
  small : r.fill ≤ 4294967295
  countable : r.records ≤ 4294967295

module _ (r : Recorder) (buf : List ℕ) (c : RecordCall) (e : is_written (answer_of r buf c) ≡ true) where
  put_room : r.fill + length (text_of c) ≤ length buf
  put_room =
      let t = text_length c in
      omega (arith, (put r buf c e).room.within)

  put_taken : take (recorder_then r buf c).fill (buffer_then r buf c) ≡ take r.fill buf ++ text_of c
  put_taken =
      let w = put r buf c e in
      let t = text_length c in
      let z : r.fill + 7 + length c.bytes ≡ r.fill + length (text_of c) = omega arith in
      rw (w.recorder_is, w.buffer_is, z) (take_over buf r.fill (text_of c) put_room)

fits_then : (r : Recorder) (buf : List ℕ) (c : RecordCall) → Fits r buf → Fits (recorder_then r buf c) (buffer_then r buf c)
fits_then r buf c f = cases _ (is_written (answer_of r buf c))
    (λ e.
    let w = put r buf c e in
    let l = over_length buf r.fill (text_of c) (put_room r buf c e) in
    record {
      within = rw (w.recorder_is, w.buffer_is, l) w.room.within;
      small = rw w.recorder_is w.room.countable;
      countable = rw w.recorder_is (omega (arith, w.room.one_more));
    })
    (λ e.
    let u = left r buf c e in
    record {
      within = rw (u.fill_is, u.buffer_is) f.within;
      small = rw u.fill_is f.small;
      countable = rw u.records_is f.countable;
    })

fits_after : (r : Recorder) (buf : List ℕ) (calls : List RecordCall) → Fits r buf → Fits (recorder_after r buf calls) (buffer_after r buf calls)
unfolding recorder_after buffer_after
fits_after r buf [] f = f
fits_after r buf (c ∷ cs) f = fits_after (recorder_then r buf c) (buffer_then r buf c) cs (fits_then r buf c f)

-- What is filled then: what was, and the records that are written. And how many records it has.
taken_after : (r : Recorder) (buf : List ℕ) (calls : List RecordCall)
    → take (recorder_after r buf calls).fill (buffer_after r buf calls) ≡ take r.fill buf ++ joined (map text_of (written_in r buf calls))
unfolding recorder_after buffer_after written_in joined
taken_after r buf [] = sym (append-nil (take r.fill buf))
taken_after r buf (c ∷ cs) =
    let behind = joined (map text_of (written_in (recorder_then r buf c) (buffer_then r buf c) cs)) in
    let again = taken_after (recorder_then r buf c) (buffer_then r buf c) cs in
    cases _ (is_written (answer_of r buf c))
    (λ e. again ∙ rw e (ap (λ (x : List ℕ). x ++ behind) (put_taken r buf c e) ∙ append_assoc (take r.fill buf) (text_of c) behind))
    (λ e. let u = left r buf c e in again ∙ rw (e, u.fill_is, u.buffer_is))

counted_after : (r : Recorder) (buf : List ℕ) (calls : List RecordCall) → (recorder_after r buf calls).records ≡ r.records + length (written_in r buf calls)
unfolding recorder_after buffer_after written_in
counted_after r buf [] = omega arith
counted_after r buf (c ∷ cs) =
    let again = counted_after (recorder_then r buf c) (buffer_then r buf c) cs in
    cases _ (is_written (answer_of r buf c))
    (λ e. let one_more : (recorder_then r buf c).records ≡ r.records + 1 = ap (λ (x : Recorder). x.records) (put r buf c e).recorder_is in rw e (omega arith))
    (λ e. let same = (left r buf c e).records_is in rw e (omega arith))

-- MANY RECORDS, one behind the other, as they are read.
record Back (ws : List RecordCall) : Type 0 where
  records : (p : ℕ) → records_from p (joined (map text_of ws)) ≡ placed p (map text_of ws)
  rest : rest_of (joined (map text_of ws)) ≡ []
  rows : (p : ℕ) → map row_of (placed p (map text_of ws)) ≡ rows_at p ws
  contents : (p : ℕ) → map (λ found. data_in found.1) (placed p (map text_of ws)) ≡ map (λ c. c.bytes) ws
  number : (p : ℕ) → length (rows_at p ws) ≡ length ws

no_whole : whole [] ≡ false
unfolding whole
no_whole = refl

back_none : Back []
unfolding joined placed rows_at
back_none =
    record {
      records = λ p. records_stop p [] no_whole;
      rest = rest_stop [] no_whole;
      rows = λ p. refl;
      contents = λ p. refl;
      number = λ p. refl;
    }

back_more : (c : RecordCall) (cs : List RecordCall) → c.kind ≤ 3 → length c.bytes ≤ 65535 → Back cs → Back (c ∷ cs)
unfolding joined placed rows_at
back_more c cs known short b =
    let behind = joined (map text_of cs) in
    let n = length (text_of c) in
    record {
      records = λ p. text_first c short known behind p ∙ ap (λ (rs : List (ℕ × List ℕ)). (p, text_of c) ∷ rs) (b.records (p + n));
      rest = text_rest c short known behind ∙ b.rest;
      rows = λ p. rw (text_row c short p, text_length c) (ap (λ (rs : List Record). row_for p c ∷ rs) (b.rows (p + (seven_bytes + length c.bytes))));
      contents = λ p. rw (text_data c short) (ap (λ (ds : List (List ℕ)). c.bytes ∷ ds) (b.contents (p + n)));
      number = λ p. ap suc (b.number (p + (seven_bytes + length c.bytes)));
    }

-- THE HEADER, as it is read.
module _ (r : Recorder) (address : List ℕ) (port : ℕ) (text rest : List ℕ) where
  header_letters : take 8 (header_of r address port text ++ rest) ≡ magic
  unfolding header_of count_bytes magic
  header_letters = refl

  header_version : field 8 2 (header_of r address port text ++ rest) ≡ 1
  unfolding header_of count_bytes magic le field unle
  header_version = refl

  header_said : field 10 2 (header_of r address port text ++ rest) ≡ header_size
  unfolding header_of count_bytes magic le field unle
  header_said = refl

  header_records : r.records ≤ 4294967295 → record_count (header_of r address port text ++ rest) ≡ r.records
  unfolding record_count header_of count_bytes magic le field
  header_records h = unle_le_four r.records h

  header_fill : r.fill ≤ 4294967295 → data_length (header_of r address port text ++ rest) ≡ r.fill
  unfolding data_length header_of count_bytes magic le field
  header_fill h = unle_le_four r.fill h

same_letters : same_of magic magic ≡ true
unfolding same_of magic
same_letters = refl

module _ (r : Recorder) (address : List ℕ) (port : ℕ) (text : List ℕ) (four : length address ≡ 4) where
  counts_length : length (count_bytes r) ≡ 28
  unfolding count_bytes magic le
  counts_length = refl

  firmware_length : length (firmware_text text) ≡ 16
  unfolding firmware_text
  firmware_length =
      let short : length (take 15 text) ≤ 15 = rw length-take (omega arith) in
      simp (length-append, length-replicate) (omega arith)

  header_length : length (header_of r address port text) ≡ header_size
  unfolding header_of
  header_length = simp (length-append, length-replicate, le_length, counts_length, firmware_length, four)

  header_good : (rest : List ℕ) → good_header (header_of r address port text ++ rest) ≡ true
  unfolding good_header
  header_good rest =
      let h = header_length in
      let l = length-append (header_of r address port text) rest in
      rw (
        le-leb header_size (length (header_of r address port text ++ rest)) (omega arith),
        header_letters r address port text rest,
        same_letters,
        header_version r address port text rest,
        header_said r address port text rest,
      )

  behind_header : (rest : List ℕ) → drop header_size (header_of r address port text ++ rest) ≡ rest
  behind_header rest = drop_at (header_of r address port text) rest header_size header_length

  -- THE CAPTURE, from what the recorder and the buffer are in the end.
  module _ (buf : List ℕ) (ws : List RecordCall) (f : Fits r buf) (b : Back ws)
      (taken : take r.fill buf ≡ joined (map text_of ws)) (counted : r.records ≡ length ws) where
    capture : List ℕ
    capture = capture_with r buf address port text

    capture_records : records_of capture ≡ placed header_size (map text_of ws)
    unfolding records_of capture
    capture_records = rw (behind_header, taken) (b.records header_size)

    capture_left : left_over capture ≡ []
    unfolding left_over capture
    capture_left = rw (behind_header, taken) b.rest

    capture_rows : rows_of capture ≡ rows_at header_size ws
    unfolding rows_of
    capture_rows = rw capture_records (b.rows header_size)

    capture_number : length (rows_of capture) ≡ length ws
    capture_number = rw capture_rows (b.number header_size)

    capture_bytes : end_of capture - header_size ≡ r.fill
    unfolding end_of capture
    capture_bytes =
        let h = header_length in
        let l = length-append (header_of r address port text) (take r.fill buf) in
        let n = length-take-le r.fill buf f.within in
        rw capture_left (omega arith)

    none_stops : stops [] ≡ false
    unfolding stops
    none_stops = refl

    capture_stops : stops (left_over capture) ≡ false
    capture_stops = rw capture_left none_stops

    capture_count : record_count capture ≡ r.records
    unfolding capture
    capture_count = header_records r address port text (take r.fill buf) f.countable

    capture_said : data_length capture ≡ r.fill
    unfolding capture
    capture_said = header_fill r address port text (take r.fill buf) f.small

    capture_listed : listed_of capture
        ≡ record { count = r.records; length = r.fill; found = record { records = r.records; bytes = r.fill; stop = None; left = 0 } }
    unfolding listed_of found_of stop_at
    capture_listed = rw (capture_count, capture_said, capture_number, capture_bytes, capture_stops, capture_left, counted)

    capture_good : good_header capture ≡ true
    unfolding capture
    capture_good = header_good (take r.fill buf)

    capture_answered : (list : List Record) → length ws ≤ length list → Told list capture (Ok (listed_of capture)) (rows_at header_size ws ++ drop (length ws) list)
    capture_answered list h = rw (capture_rows, b.number header_size) at (read_listed list capture capture_good (rw capture_number h))

    read_back : ReadBack r ws (capture_with r buf address port text)
    unfolding capture
    read_back =
        record {
          header = capture_good;
          records = capture_records;
          rows = capture_rows;
          contents = rw capture_records (b.contents header_size);
          number = capture_number;
          counted = counted;
          said_records = capture_count;
          said_length = capture_said;
          found_bytes = capture_bytes;
          nothing_left = capture_left;
          no_stop = capture_stops;
          listed = capture_listed;
          answered = capture_answered;
        }

module _ (buf : List ℕ) (calls : List RecordCall) where
  empty_fits : Fits empty_recorder buf
  unfolding empty_recorder
  empty_fits = record { within = omega arith; small = omega arith; countable = omega arith }

  taken_all : take (recorder_of buf calls).fill (buffer_after empty_recorder buf calls) ≡ joined (map text_of (written_of buf calls))
  unfolding empty_recorder
  taken_all = taken_after empty_recorder buf calls

  counted_all : (recorder_of buf calls).records ≡ length (written_of buf calls)
  unfolding empty_recorder
  counted_all = omega (arith, counted_after empty_recorder buf calls)

  -- THE ROUND TRIP.
  pub trip_claim : (address : List ℕ) (port : ℕ) (text : List ℕ) → length address ≡ 4 → TripClaim buf calls address port text
  trip_claim address port text four =
      read_back (recorder_of buf calls) address port text four (buffer_after empty_recorder buf calls) (written_of buf calls)
      (fits_after empty_recorder buf calls empty_fits)
      (by_written Back back_none back_more empty_recorder buf calls)
      taken_all counted_all
