-- What others cite of the lengths: nobody else opens the table.
use Rattle.std.specs.Prelude.{◌≡◌, refl, Some}
use Rattle.pid.specs.Lengths.{data_length_of, lookup, j1979}

-- The engine's revs, PID 0Ch, have two bytes.
pub revs_length : data_length_of 0x0c ≡ Some 2
unfolding data_length_of lookup j1979
revs_length = refl
