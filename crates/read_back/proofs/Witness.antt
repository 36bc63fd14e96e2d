-- A history with all that can happen to a record: five calls into a buffer of 20 bytes, of which the first and the fourth are
-- written. The second is refused, the third is one byte too long, and the fifth finds the buffer full. All of it is computed.
use Rattle.std.specs.Prelude.{true, Some, None, List, [], ◌∷◌, ◌++◌, ◌≡◌, refl, ℕ, take, replicate}
use Rattle.base.specs.Write.{over}
use Rattle.capture.specs.Format.{le, record_bytes, fits_in, recorded_of, buffer_of, magic, firmware_text, count_bytes, header_of, empty_recorder}
use Rattle.capture_read.specs.Reading.{unle, field, time_in, type_in, length_in, size_in, whole, stops, records_by, rest_by, records_from, rest_of, records_of, left_over, row_in, rows_of, end_of, stop_at, found_of}
use Rattle.read_back.specs.Trip.{RecordCall, recorder_after, buffer_after, is_written, written_in, recorder_of, written_of, capture_of}

abbrev buffer : List ℕ
buffer = replicate 20 255

-- 2 ^ 32 + 5 milliseconds: the time is read as 5
abbrev first : RecordCall
first = record { elapsed = 4294967301; kind = 1; bytes = 65 ∷ 66 ∷ [] }

abbrev unknown : RecordCall
unknown = record { elapsed = 10; kind = 4; bytes = 1 ∷ [] }

abbrev long : RecordCall
long = record { elapsed = 20; kind = 0; bytes = 1 ∷ 2 ∷ 3 ∷ 4 ∷ 5 ∷ [] }

abbrev fourth : RecordCall
fourth = record { elapsed = 300; kind = 3; bytes = 1 ∷ 2 ∷ 3 ∷ 4 ∷ [] }

abbrev late : RecordCall
late = record { elapsed = 400; kind = 2; bytes = [] }

abbrev calls : List RecordCall
calls = first ∷ unknown ∷ long ∷ fourth ∷ late ∷ []

abbrev capture : List ℕ
capture = capture_of buffer calls (192 ∷ 168 ∷ 0 ∷ 10 ∷ []) 35000 (118 ∷ 49 ∷ [])

pub written : written_of buffer calls ≡ first ∷ fourth ∷ []
unfolding empty_recorder written_in is_written recorded_of buffer_of fits_in record_bytes le over
written = refl

pub recorder : recorder_of buffer calls ≡ record { fill = 20; records = 2; overflow = true }
unfolding empty_recorder recorder_after recorded_of buffer_of fits_in record_bytes le over
recorder = refl

pub rows : rows_of capture ≡ record { time = 5; kind = 1; length = 2; place = 64 } ∷ record { time = 300; kind = 3; length = 4; place = 73 } ∷ []
unfolding empty_recorder recorder_after buffer_after recorded_of buffer_of fits_in record_bytes le over header_of count_bytes firmware_text magic rows_of records_of records_from records_by row_in time_in type_in length_in size_in field unle whole
rows = refl

-- Cut within the fourth call's record, the first one's is listed, and seven bytes are left over.
pub cut : found_of (take 80 capture) ≡ record { records = 1; bytes = 9; stop = None; left = 7 }
unfolding empty_recorder recorder_after buffer_after recorded_of buffer_of fits_in record_bytes le over header_of count_bytes firmware_text magic rows_of records_of records_from records_by row_in time_in type_in length_in size_in field unle whole found_of end_of left_over rest_of rest_by stop_at stops
cut = refl

-- Seven bytes of a record of type 4 behind them end the list there, and six do not.
abbrev four : List ℕ
four = 0 ∷ 0 ∷ 0 ∷ 0 ∷ 4 ∷ 9 ∷ 9 ∷ []

pub stopped : found_of (capture ++ four) ≡ record { records = 2; bytes = 20; stop = Some 84; left = 7 }
unfolding empty_recorder recorder_after buffer_after recorded_of buffer_of fits_in record_bytes le over header_of count_bytes firmware_text magic rows_of records_of records_from records_by row_in time_in type_in length_in size_in field unle whole found_of end_of left_over rest_of rest_by stop_at stops
stopped = refl

pub stopped_not : found_of (take 90 (capture ++ four)) ≡ record { records = 2; bytes = 20; stop = None; left = 6 }
unfolding empty_recorder recorder_after buffer_after recorded_of buffer_of fits_in record_bytes le over header_of count_bytes firmware_text magic rows_of records_of records_from records_by row_in time_in type_in length_in size_in field unle whole found_of end_of left_over rest_of rest_by stop_at stops
stopped_not = refl
