-- Shares are rounded up to millionths before they are tried.
use Rattle.std.specs.Prelude.{◌≡◌, Ok, Err, refl, codes}
use Rattle.plain_text.specs.Times.{micros_read, read_parts, shifts, power_shifts, power_size, micros_of, in_range}
use Rattle.scenario_files.specs.declared.faults.ScenarioWhat.TheVariants.{BadValue}
use Rattle.scenario_files.specs.Values.{share_of}

-- 99.99999 millionths are 100, a ten-thousandth
pub a_little_less : share_of (codes "0.00009999999") ≡ Ok 1
unfolding micros_read read_parts shifts power_shifts power_size micros_of in_range
a_little_less = refl

-- 100.00001 millionths are 101, no whole ten-thousandth
pub a_little_more : share_of (codes "0.00010000001") ≡ Err BadValue
unfolding micros_read read_parts shifts power_shifts power_size micros_of in_range
a_little_more = refl
