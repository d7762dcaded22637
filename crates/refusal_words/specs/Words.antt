-- What a refusal says in words, in ASCII: what is wrong, and what to do.
use Rattle.std.specs.Prelude.{List, [], ◌∷◌, ◌++◌, cond, ℕ, length, get_or, leb, Result, Ok, Err}
use Rattle.meaning.specs.Bytes.{ascii}
use Rattle.meaning.specs.Refusals.{code_of}
use Rattle.meaning.specs.declared.Refusal.{Refusal}
use Rattle.meaning.specs.declared.Refusal.TheVariants.{ShortOutput}
use Rattle.text_pieces.specs.Put.{at_front}

-- the words of the refusal with each number, from 0; there is none with 0
unfoldable pub sentences : List (List ℕ)
sentences =
    []
    ∷ ascii "the file is empty, cut short, or no rule file: a rule's text must go through write_rule first"
    ∷ ascii "this record's length does not fit its kind: it counts the kind (2 bytes) and the body"
    ∷ ascii "no record of this kind may stand here: first 256, then a mask (257) or none, then nodes (0 to 13)"
    ∷ ascii "the number of signals must be 1 to 4"
    ∷ ascii "the number of nodes must be 1 to 64"
    ∷ ascii "an operand must be the number of an earlier node, counted from 0"
    ∷ ascii "a signal is out of range (of 2 there are s0 and s1), or in a rule file a mask or a count (0 to 4)"
    ∷ ascii "more than seven of X, U, F and G (next, until, eventually, always): write the rule with fewer"
    ∷ ascii "bytes follow the last node: end the file here, or raise the number of nodes"
    ∷ ascii "the output is shorter than what is to be written: lend more room"
    ∷ ascii "the rule can leave over 256 different remaining properties, too many for a table: simplify it"
    ∷ ascii "no such event: it is not below 2^signals, or the rule's mask says that it cannot happen"
    ∷ ascii "the state, or this watch of the desk, is none that the table can have: start anew"
    ∷ ascii "not the bytes of a table, or not of the table that was opened: build and open it anew"
    ∷ ascii "at the mark the text breaks the grammar, or ends unfinished, or passes 1,024 bytes; see --help"
    ∷ ascii "the rule has more than 64 nodes, one for each sign but brackets: write it shorter"
    ∷ ascii "the mask says that no event can happen: set the bit of each event that can"
    ∷ ascii "a desk must have 1 to 64 watches, one for each tunnel"
    ∷ ascii "no such tunnel: they are numbered from 0, and there are as many as watches"
    ∷ ascii "32 events already wait for this tunnel: serve some before posting more"
    ∷ ascii "this tunnel has counted 4,294,967,295 events, the most there can be: make a fresh desk"
    ∷ ascii "the two recordings must be equally long, two bytes for each event"
    ∷ ascii "at this event the two recordings contradict each other: one has a signal on, the other off"
    ∷ ascii "the state, or this watch of the desk, is of another opening: hand it to the one it came from"
    ∷ []

abbrev pub words_for : ℕ → List ℕ
words_for number = get_or sentences number []

-- as a line
abbrev pub words_of : Refusal → List ℕ
words_of r = words_for (code_of r).0 ++ (10 ∷ [])

-- the answer: 10 where the output has fewer than 128 bytes, in which the words of every refusal fit
abbrev pub words_answer : Refusal → List ℕ → Result ℕ Refusal
words_answer r out = cond (leb 128 (length out)) (Ok (length (words_of r))) (Err ShortOutput)

-- the output then: on a refusal "Lent buffers keep every byte"
abbrev pub words_after : Refusal → List ℕ → List ℕ
words_after r out = cond (leb 128 (length out)) (at_front (words_of r) out) out
