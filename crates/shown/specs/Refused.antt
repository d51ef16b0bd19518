-- A refusal in words: its number in document 01's table, and what is wrong
use Rattle.std.specs.Prelude.{List, ◌++◌, ℕ}
use Rattle.image.specs.declared.table.Refusal.{Refusal}
use Rattle.image.specs.declared.table.Refusal.TheVariants.{Length, Block, Head, Count, Fill, Lent, Unsound, Stopped, Done, Short}
use Rattle.shown.specs.declared.line.Line.{Line}
use Rattle.shown.specs.Line.{bytes, empty, put_all, decimal}

-- 2 names the block
abbrev pub block_words : ℕ → List ℕ
block_words b = bytes "2: the check or the number of block " ++ decimal b ++ bytes " is wrong"

unfoldable pub reason : Refusal → List ℕ
reason Length = bytes "1: its length is 0 or not a multiple of 512 bytes"
reason (Block b) = block_words b
reason Head = bytes "3: a header field is out of range, or a word after the header is not zero"
reason Count = bytes "4: it has not as many blocks as its code length asks"
reason Fill = bytes "5: a word after the code is not zero"
reason Lent = bytes "6: a store or the code has the wrong length"
reason Unsound = bytes "7: the state is not sound"
reason Stopped = bytes "8: the machine is stopped"
reason Done = bytes "9: a bad done event"
reason Short = bytes "10: the output is too short"

abbrev pub refusal_line : Refusal → Line
refusal_line r = put_all empty (bytes "refused, " ++ reason r)
