-- How many bytes a file may have that is read.
use Rattle.std.specs.Prelude.{ℕ}

-- the bytes of a file that is read, of a schedule and of a certificate
abbrev pub largest_file : ℕ
largest_file = 1048576

abbrev pub largest_schedule : ℕ
largest_schedule = 4194304

abbrev pub largest_certificate : ℕ
largest_certificate = 16777216
