-- SETTINGS and PROFILE: fields parted by commas, in document 01's order. 44 is `,`. A bad field makes all bad.
use Rattle.std.specs.Prelude.{List, ℕ, eqb, Option, Some, None}
use Rattle.base.specs.Choice.{pick}
use Rattle.base.specs.Times.{times}
use Rattle.text.specs.Cut.{head_of, tail_of}
use Rattle.numeral.specs.Decimal.{number_of}
use Rattle.hex_text.specs.Pairs.{pid_of}
use Rattle.config.specs.declared.Settings.{Settings}
use Rattle.config.specs.declared.Profile.{Profile}
use Rattle.history_items.specs.Items.{given}
use Rattle.history_numbers.specs.Numbers.{byte_of, word32_of, flag_of, threshold_of}

-- The largest number of 64 bits.
abbrev pub word : ℕ
word = 18446744073709551615

-- What stands behind the first comma, the second, the third.
abbrev pub second : List ℕ → List ℕ
second s = tail_of 44 s

abbrev pub third : List ℕ → List ℕ
third s = tail_of 44 (second s)

abbrev pub fourth : List ℕ → List ℕ
fourth s = tail_of 44 (third s)

abbrev pub fifth : List ℕ → List ℕ
fifth s = tail_of 44 (fourth s)

-- "eight numbers, in document 01's order": MODE,INTERVAL,RATIO,PROMOTE,DEMOTE,REMOVE,MULTI,MAXPIDS
unfoldable pub settings_of : List ℕ → Option Settings
settings_of s =
    pick (eqb (times 44 s) 7)
    (given (byte_of (head_of 44 s)) (λ m.
    given (number_of word (head_of 44 (second s))) (λ i.
    given (word32_of (head_of 44 (third s))) (λ r.
    given (number_of word (head_of 44 (fourth s))) (λ p.
    given (number_of word (head_of 44 (fifth s))) (λ d.
    given (number_of word (head_of 44 (second (fifth s)))) (λ v.
    given (flag_of (head_of 44 (third (fifth s)))) (λ u.
    given (byte_of (head_of 44 (fourth (fifth s)))) (λ n.
    Some (record { mode = m; interval = i; ratio = r; promotion = p; demotion = d; removal = v; multi = u; maxpids = n }))))))))))
    None

-- KIND,PID,PRIORITY,THRESHOLD,ENABLED
unfoldable pub profile_of : List ℕ → Option Profile
profile_of s =
    pick (eqb (times 44 s) 4)
    (given (byte_of (head_of 44 s)) (λ k.
    given (pid_of (head_of 44 (second s))) (λ p.
    given (byte_of (head_of 44 (third s))) (λ r.
    given (threshold_of (head_of 44 (fourth s))) (λ t.
    given (flag_of (fifth s)) (λ e.
    Some (record { kind = k; pid = p; priority = r; threshold = t; enabled = e })))))))
    None
