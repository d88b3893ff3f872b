-- How a line is printed: its five fields, a space between two.
use Rattle.std.specs.Prelude.{ℕ, List, ◌++◌, codes, decimal}
use Rattle.listing_line.specs.declared.Line.{Line}
use Rattle.listing_line.specs.declared.Word.{Word}
use Rattle.listing_line.specs.declared.Word.TheVariants as word

abbrev pub word_text : Word → List ℕ
word_text word.Ok = codes "ok"
word_text word.Err = codes "err"
word_text word.Bad = codes "bad"
word_text word.Num = codes "num"

abbrev pub line_text : Line → List ℕ
line_text l =
    decimal l.kind ++ codes " " ++ decimal l.tag ++ codes " " ++ word_text l.shown.word ++ codes " " ++ decimal l.shown.value ++ codes " " ++ decimal l.extra
