use Rattle.window.proofs.Lawful.{order}
use Rattle.window.proofs.comparing.same_books.Goals as goal

pub returns : goal.returns
returns g c = record {
  books = c.equal_books.ensures;
  order = λ lots lots' rs rs' same re re'. order _ _ lots lots' rs rs' _ _ same re re';
  lots = λ lots lots' rs rs' same re re'.
      let law = order _ _ lots lots' rs rs' _ _ same re re' in
      ((λ yes. law.only (c.equal_books.ensures.0 yes)), (λ equal. c.equal_books.ensures.1 (law.equal equal)));
}
