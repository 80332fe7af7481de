use Rattle.reader.proofs.Same.{from_new}
use Rattle.terms.specs.Models.{terms_model}
use Rattle.terms.specs.TermsText.{terms}
use Rattle.reader.proofs.Given.{gives_whole}
use Rattle.terms.proofs.terms_text.read_terms.Goals as goal

pub returns : goal.returns
returns c = record { value = gives_whole terms_model c.terms.result c.terms.ensures (from_new terms c.new.result c.new.ensures.layer c.new.ensures.text c.new.ensures.place) }
