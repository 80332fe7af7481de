use Rattle.reader.proofs.Same.{from_new}
use Rattle.day.specs.Models.{day_model}
use Rattle.day.specs.DayText.{day}
use Rattle.reader.proofs.Given.{gives_whole}
use Rattle.day.proofs.day_text.read_day.Goals as goal

pub returns : goal.returns
returns c = record { value = gives_whole day_model c.day.result c.day.ensures (from_new (day c.args.offices) c.new.result c.new.ensures.layer c.new.ensures.text c.new.ensures.place) }
