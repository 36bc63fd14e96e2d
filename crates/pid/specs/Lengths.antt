-- SAE J1979, mode 01: how many data bytes each PID's reply line has, as the runs of PIDs that have the same number.
-- PIDs in no run are those that pid.rs lists no length for.
use Rattle.std.specs.Prelude.{◌&&◌, List, [], ◌∷◌, Option, Some, None, ℕ, leb}
use Rattle.base.specs.Choice.{pick}

pub record Run : Type 0 where
  pub first : ℕ
  pub last : ℕ
  pub bytes : ℕ

abbrev run : ℕ → ℕ → ℕ → Run
run f l b = record { first = f; last = l; bytes = b }

unfoldable pub j1979 : List Run
j1979 =
    -- supported PIDs 01-20; monitor status since codes were cleared
    run 0x00 0x01 4 ∷
    -- freeze frame code; fuel system status
    run 0x02 0x03 2 ∷
    -- load, coolant, fuel trims, fuel pressure, intake pressure
    run 0x04 0x0b 1 ∷
    -- engine speed
    run 0x0c 0x0c 2 ∷
    -- vehicle speed, timing advance, intake air temperature
    run 0x0d 0x0f 1 ∷
    -- air flow
    run 0x10 0x10 2 ∷
    -- throttle, secondary air, oxygen sensors present
    run 0x11 0x13 1 ∷
    -- oxygen sensors, voltage and trim
    run 0x14 0x1b 2 ∷
    -- OBD standard, oxygen sensors present, auxiliary input
    run 0x1c 0x1e 1 ∷
    -- run time since start
    run 0x1f 0x1f 2 ∷
    -- supported PIDs 21-40
    run 0x20 0x20 4 ∷
    -- distance with the lamp on; fuel rail pressures
    run 0x21 0x23 2 ∷
    -- oxygen sensors, ratio and voltage
    run 0x24 0x2b 4 ∷
    -- exhaust gas recirculation, purge, tank level, warm-ups
    run 0x2c 0x30 1 ∷
    -- distance since codes were cleared; vapour pressure
    run 0x31 0x32 2 ∷
    -- barometric pressure
    run 0x33 0x33 1 ∷
    -- oxygen sensors, ratio and current
    run 0x34 0x3b 4 ∷
    -- catalyst temperatures
    run 0x3c 0x3f 2 ∷
    -- supported PIDs 41-60; monitor status this drive
    run 0x40 0x41 4 ∷
    -- module voltage, absolute load, commanded ratio
    run 0x42 0x44 2 ∷
    -- throttles, ambient air, pedals, throttle actuator
    run 0x45 0x4c 1 ∷
    -- time with the lamp on; time since codes were cleared
    run 0x4d 0x4e 2 ∷
    -- largest values; largest air flow
    run 0x4f 0x50 4 ∷
    -- fuel type; share of ethanol
    run 0x51 0x52 1 ∷
    -- vapour pressures, secondary oxygen trims, fuel rail pressure
    run 0x53 0x59 2 ∷
    -- pedal, hybrid battery, oil temperature
    run 0x5a 0x5c 1 ∷
    -- injection timing; fuel rate
    run 0x5d 0x5e 2 ∷
    -- emission requirements
    run 0x5f 0x5f 1 ∷
    -- supported PIDs 61-80
    run 0x60 0x60 4 ∷
    -- torque demanded; torque
    run 0x61 0x62 1 ∷
    -- reference torque
    run 0x63 0x63 2 ∷
    -- torque data
    run 0x64 0x64 5 ∷
    -- auxiliary inputs and outputs supported
    run 0x65 0x65 2 ∷
    -- supported PIDs 81-A0
    run 0x80 0x80 4 ∷
    -- supported PIDs A1-C0
    run 0xa0 0xa0 4 ∷
    -- supported PIDs C1-E0
    run 0xc0 0xc0 4 ∷
    []

unfoldable pub lookup : List Run → ℕ → Option ℕ
lookup [] p = None
lookup (r ∷ rs) p = pick (leb r.first p && leb p r.last) (Some r.bytes) (lookup rs p)

unfoldable pub data_length_of : ℕ → Option ℕ
data_length_of p = lookup j1979 p
