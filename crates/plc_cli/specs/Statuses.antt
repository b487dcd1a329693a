-- The exit statuses, by name.
use Rattle.std.specs.Prelude.{ℕ}
use Rattle.plc_outside.specs.declared.words.WordsFault.{WordsFault}
use Rattle.plc_outside.specs.declared.words.WordsFault.TheVariants.{NotUtf8, Memory}
use Rattle.plc_replay.specs.declared.end.End.{End}
use Rattle.plc_replay.specs.declared.end.End.TheVariants.{Ended, Race, Impossible, ForbiddenFree}

-- what was asked is so, or was done
abbrev pub holds : ℕ
holds = 0

-- what was asked isn't so
abbrev pub fails : ℕ
fails = 1

-- the bytes are refused
abbrev pub refused : ℕ
refused = 2

-- the words are of no listed form
abbrev pub bad_words : ℕ
bad_words = 3

-- a file couldn't be read
abbrev pub unread : ℕ
unread = 4

-- the text couldn't be written whole
abbrev pub unwritten : ℕ
unwritten = 5

-- memory ran out
abbrev pub no_memory : ℕ
no_memory = 6

-- a word of the command line isn't UTF-8
abbrev pub not_utf8 : ℕ
not_utf8 = 7

-- the status where there are no words
abbrev pub words_status : WordsFault → ℕ
words_status NotUtf8 = not_utf8
words_status Memory = no_memory

-- the status of an end: a schedule is followed to its end, or it isn't
abbrev pub end_status : End → ℕ
end_status (Ended lines events freed) = holds
end_status (Race kind line prim) = fails
end_status (Impossible line) = fails
end_status (ForbiddenFree a line) = fails
