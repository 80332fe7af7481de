use Rattle.std.proofs.Common.{◌≡◌, ◌≤◌, true, List, [], take}
use Rattle.rules.specs.Runs.{Answer}
use Rattle.window.specs.Windows.{setting_of}
use Rattle.playing.specs.Days.{DayAt}
use Rattle.playing.specs.Tallies.{counted}
use Rattle.playing.proofs.day.Played.play_all.Given as goal

abbrev pub invariant-loop-office : goal.invariant-loop-office
invariant-loop-office g l = record {
  became : g.P.Post.became l.initial.self.window.post l.self.window.post;
  setting : setting_of l.self.window ≡ setting_of l.initial.self.window;
  few : counted l.self.tally ≤ l.office-index;
  used : l.initial.self.window.used ≡ true → l.self ≡ l.initial.self;
  day : DayAt g.P.Post.lanes [] [] l.initial.self → (answers : List Answer) × DayAt g.P.Post.lanes (take l.office-index l.lots) answers l.self;
}
