-- Lemmas on the order in which a session reads and writes.
use Rattle.std.proofs.Common.{◌≡◌, ◌≢◌, ◌⊎◌, inl, inr, ◌+◌, suc, true, false, true≢false, List, [], ◌∷◌, ◌++◌, length, map, Option, None, Some, refl, ap, sym, ◌∙◌, subst, append-nil, length-append, arith}
use Rattle.std.proofs.lemmas.Bool.{cases_Bool}
use Rattle.std.proofs.lemmas.Option.{none-some}
use Rattle.cm_io.specs.LinesInside.{IsFirstLine, Reader}
use Rattle.cm_io.specs.Orders.{MovesCame, InStep, Move, ends_in, gave, given_in, joined, wrote, written_in}
use Rattle.cm_io.specs.OrdersInside.{Pulled, PutsInOrder, WritesPieces}
use Rattle.cm_io.specs.declared.output.Put.{Put}
use Rattle.cm_io.specs.declared.output.Put.TheVariants as put
use Rattle.cm_io.proofs.lemmas.Ordering.{came-none, came-trans, joined-more}
use Rattle.cm_reply.specs.Lists.{TextBytes}
use Rattle.cm_session.specs.declared.ended.Ended.{Ended}
use Rattle.cm_session.specs.declared.ended.Ended.TheVariants as ended
use Rattle.cm_session.specs.Steps.{RepliesInOrder}
use Rattle.cm_io.proofs.lemmas.InStep.{ends-append, unbroken-ends, given-append, written-append, given-gave, given-wrote, written-gave, written-wrote, reads-in_step, writes-in_step}

-- ---- moves one behind another

-- the bytes that moves gave, behind reads and behind writes
given-reads : (moves : List Move) (pieces : List TextBytes) → given_in (moves ++ map gave pieces) ≡ given_in moves ++ joined pieces
given-reads moves pieces = given-append moves (map gave pieces) ∙ ap (λ (l : TextBytes). given_in moves ++ l) (given-gave pieces)

-- What a session was given stays the same when it writes pieces.
given-writes : (moves : List Move) (pieces : List TextBytes) → given_in (moves ++ map wrote pieces) ≡ given_in moves
given-writes moves pieces = given-append moves (map wrote pieces) ∙ ap (λ (l : TextBytes). given_in moves ++ l) (given-wrote pieces) ∙ append-nil (given_in moves)

-- What a session wrote stays the same when it is given pieces.
written-reads : (moves : List Move) (pieces : List TextBytes) → written_in (moves ++ map gave pieces) ≡ written_in moves
written-reads moves pieces = written-append moves (map gave pieces) ∙ ap (λ (l : TextBytes). written_in moves ++ l) (written-gave pieces) ∙ append-nil (written_in moves)

-- What a session wrote grows by the pieces that it writes.
written-writes : (moves : List Move) (pieces : List TextBytes) → written_in (moves ++ map wrote pieces) ≡ written_in moves ++ joined pieces
written-writes moves pieces = written-append moves (map wrote pieces) ∙ ap (λ (l : TextBytes). written_in moves ++ l) (written-wrote pieces)

-- ---- what a session has in hand between two lines

-- these replies were made and written, the moves gave these bytes, and no ended line but those in what the reader
-- holds waits for a reply; behind the end nothing is read
pub record InHand (replies : List TextBytes) (moves : List Move) (bytes : TextBytes) (reader : Reader) : Type 0 where
  pub in_step : InStep replies moves
  pub written : written_in moves ≡ joined replies
  pub given : given_in moves ≡ bytes
  pub lines : reader.over ≡ false → ends_in bytes ≡ length replies + ends_in reader.held

-- At first a session has no replies, no moves and no bytes in hand, where its reader holds nothing.
pub in-hand-none : (reader : Reader) → reader.held ≡ [] → InHand [] [] [] reader
in-hand-none reader none = record { in_step = InStep.begun; written = refl; given = refl; lines = λ not. ap (λ (t : TextBytes). 0 + ends_in t) (sym none) }

-- the reads of a step, in step with what was done before
pub record HasRead (replies : List TextBytes) (moves : List Move) (a b : Option (List Move)) (given : TextBytes) : Type 0 where
  pub pieces : List TextBytes
  pub all : given ≡ joined pieces
  pub came : MovesCame a b (map gave pieces)
  pub in_step : InStep replies (moves ++ map gave pieces)

-- What a step reads comes in turn with the replies before it, where behind the end nothing is read.
pub has-read : (replies : List TextBytes) (moves : List Move) (bytes given : TextBytes) (reader : Reader) (a b : Option (List Move)) → InHand replies moves bytes reader
    → Pulled a b reader.held given → (reader.over ≡ true → b ≡ a) → (reader.over ≡ true → given ≡ []) → HasRead replies moves a b given
has-read replies moves bytes given reader a b hand pulled still none =
    elim (cases_Bool reader.over) [
      | inl over ↦ record {
        pieces = [];
        all = none over;
        came = subst (λ (o : Option (List Move)). MovesCame a o []) (sym (still over)) (came-none a);
        in_step = subst (InStep replies) (sym (append-nil moves)) hand.in_step;
      }
      | inr not ↦ record {
        pieces = pulled.pieces;
        all = pulled.all;
        came = pulled.came;
        in_step = reads-in_step replies moves reader.held pulled.pieces hand.in_step hand.written (ap ends_in hand.given ∙ hand.lines not) pulled.no_further;
      }
    ]

-- the moves of a step that ends without a line
abbrev pub moves_behind : (replies : List TextBytes) (moves : List Move) (a b : Option (List Move)) (given : TextBytes) → HasRead replies moves a b given → List Move
moves_behind replies moves a b given r = moves ++ map gave r.pieces

-- The moves of a session with the reads of a step and with its reply.
abbrev pub moves_with : (replies : List TextBytes) (moves : List Move) (a b c : Option (List Move)) (given reply : TextBytes) (end : Option Ended) → HasRead replies moves a b given → RepliesInOrder end b c reply → List Move
moves_with replies moves a b c given reply end r w = (moves ++ map gave r.pieces) ++ map wrote w.pieces

-- With a step's reads the moves gave the bytes before it and those that it was given.
pub read-given : (replies : List TextBytes) (moves : List Move) (bytes given : TextBytes) (a b : Option (List Move)) (r : HasRead replies moves a b given) → given_in moves ≡ bytes
    → given_in (moves_behind replies moves a b given r) ≡ bytes ++ given
read-given replies moves bytes given a b r is = given-reads moves r.pieces ∙ ap (λ (l : TextBytes). l ++ joined r.pieces) is ∙ ap (λ (l : TextBytes). bytes ++ l) (sym r.all)

-- With a step's reads the moves are what came of the link's order, where they were before it.
pub read-came : (replies : List TextBytes) (moves : List Move) (given : TextBytes) (o a b : Option (List Move)) (r : HasRead replies moves a b given) → MovesCame o a moves
    → MovesCame o b (moves_behind replies moves a b given r)
read-came replies moves given o a b r came = came-trans o a b moves (map gave r.pieces) came r.came

-- With a step's reads and its reply, replies and reads still take turns.
pub reply-in_step : (replies : List TextBytes) (moves : List Move) (a b c : Option (List Move)) (given reply : TextBytes) (end : Option Ended) (r : HasRead replies moves a b given) (w : RepliesInOrder end b c reply)
    → InStep (replies ++ reply ∷ []) (moves_with replies moves a b c given reply end r w)
reply-in_step replies moves a b c given reply end r w = writes-in_step (replies ++ reply ∷ []) (moves ++ map gave r.pieces) w.pieces (InStep.made reply r.in_step)

-- With a step's reads and its reply the moves gave the bytes before it and those of its reads.
pub reply-given : (replies : List TextBytes) (moves : List Move) (bytes : TextBytes) (a b c : Option (List Move)) (given reply : TextBytes) (end : Option Ended) (r : HasRead replies moves a b given) (w : RepliesInOrder end b c reply)
    → given_in moves ≡ bytes → given_in (moves_with replies moves a b c given reply end r w) ≡ bytes ++ given
reply-given replies moves bytes a b c given reply end r w is = given-writes (moves ++ map gave r.pieces) w.pieces ∙ read-given replies moves bytes given a b r is

-- With a step's reads and its reply the moves are what came of the link's order.
pub reply-came : (replies : List TextBytes) (moves : List Move) (o a b c : Option (List Move)) (given reply : TextBytes) (end : Option Ended) (r : HasRead replies moves a b given) (w : RepliesInOrder end b c reply)
    → MovesCame o a moves → MovesCame o c (moves_with replies moves a b c given reply end r w)
reply-came replies moves o a b c given reply end r w came = came-trans o b c (moves ++ map gave r.pieces) (map wrote w.pieces) (read-came replies moves given o a b r came) w.came

-- a line was taken, and its reply written whole
pub in-hand-more : (replies : List TextBytes) (moves : List Move) (bytes : TextBytes) (before after : Reader) (a b c : Option (List Move)) (given line reply : TextBytes)
    → (r : HasRead replies moves a b given) → (w : RepliesInOrder None b c reply)
    → InHand replies moves bytes before → (before.over ≡ true → after.over ≡ true) → IsFirstLine (before.held ++ given) after line
    → InHand (replies ++ reply ∷ []) (moves_with replies moves a b c given reply None r w) (bytes ++ given) after
in-hand-more replies moves bytes before after a b c given line reply r w hand stays (unbroken, how) = record {
  in_step = reply-in_step replies moves a b c given reply None r w;
  written = written-writes (moves ++ map gave r.pieces) w.pieces ∙ ap (λ (l : TextBytes). l ++ joined w.pieces) (written-reads moves r.pieces ∙ hand.written)
      ∙ ap (λ (l : TextBytes). joined replies ++ l) (w.whole refl) ∙ sym (joined-more replies reply);
  given = reply-given replies moves bytes a b c given reply None r w hand.given;
  lines = λ not. elim how [
    | inl taken ↦
        let before_not : before.over ≡ false = not_before (cases_Bool before.over) not in
        let first : ends_in (bytes ++ given) ≡ ends_in bytes + ends_in given = ends-append bytes given in
        let there : ends_in before.held + ends_in given ≡ ends_in line + ends_in (10 ∷ after.held) = sym (ends-append before.held given) ∙ ap ends_in taken ∙ ends-append line (10 ∷ after.held) in
        let none : ends_in line ≡ 0 = unbroken-ends line unbroken in
        let one : ends_in (10 ∷ after.held) ≡ suc (ends_in after.held) = refl in
        let more : length (replies ++ reply ∷ []) ≡ length replies + 1 = length-append replies (reply ∷ []) in
        omega (arith, hand.lines before_not, first, there, none, one, more)
    | inr last ↦ absurd (true≢false (sym last.3 ∙ not))
  ];
} where
  not_before : (before.over ≡ true) ⊎ (before.over ≡ false) → after.over ≡ false → before.over ≡ false
  not_before (inl over) not = absurd (true≢false (sym (stays over) ∙ not))
  not_before (inr is) not = is

-- ---- a reply

-- what was put is all of the reply, or the session ends
pub put-ordered : (end : Option Ended) (a b x y : Option (List Move)) (text : TextBytes) (p : Put) → a ≡ x → b ≡ y → PutsInOrder x y text p → (end ≡ None → p ≡ put.Done) → RepliesInOrder end a b text
put-ordered end a b x y text p first last puts done = record {
  pieces = puts.pieces;
  came = subst (λ (o : Option (List Move)). MovesCame o b (map wrote puts.pieces)) (sym first) (subst (λ (o : Option (List Move)). MovesCame x o (map wrote puts.pieces)) (sym last) puts.came);
  whole = λ is. subst (WritesPieces text puts.pieces) (done is) puts.are;
}

-- Where a session ends, its replies are in order whatever was put, if the put was.
pub put-last : (e : Ended) (a b x y : Option (List Move)) (text : TextBytes) (p : Put) → a ≡ x → b ≡ y → PutsInOrder x y text p → RepliesInOrder (Some e) a b text
put-last e a b x y text p first last puts = put-ordered (Some e) a b x y text p first last puts (λ is. absurd (none-some e (sym is)))
