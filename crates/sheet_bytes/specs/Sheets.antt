-- What a sheet that was read means. Assumes nothing.
use Rattle.std.specs.Prelude.{ℕ, Ok, Err, Result}
use Rattle.refusal.specs.declared.Refusal.{Refusal}
use Rattle.sheet.specs.Contents.{Content, content_of}
use Rattle.sheet_bytes.specs.declared.sheets.SheetRead.{SheetRead}

-- The content of what was read, and how many bytes it took; a refusal is itself.
abbrev pub contents : Result SheetRead Refusal → Result (Content × ℕ) Refusal
contents (Ok r) = Ok (content_of r.sheet, r.used)
contents (Err e) = Err e
