use mathlib.Core.Path.{sym}
use Rattle.record.proofs.Laws.Scan.{says_7, says_8, says_9, says_20, says_none}
use Rattle.record.proofs.checking.scan_says.Goals as goal

pub returns-then-s : goal.returns-then-s
returns-then-s c K q a l e h = sym (says_7 K q a l _ e h c.if-s.true)

pub returns-then-s-2 : goal.returns-then-s-2
returns-then-s-2 c K q a l e h = sym (says_8 K q a l _ e h c.if-s.false c.if-s-2.true)

pub returns-then-first-last : goal.returns-then-first-last
returns-then-first-last c K q a l e h = sym (says_9 K q a l _ e h c.if-s.false c.if-s-2.false c.if-first-last.true)

pub returns-then-s-3 : goal.returns-then-s-3
returns-then-s-3 c K q a l e h = sym (says_20 K q a l _ e h c.if-s.false c.if-s-2.false c.if-first-last.false c.if-s-3.true)

pub returns : goal.returns
returns c K q a l e h = sym (says_none K q a l _ e h c.if-s.false c.if-s-2.false c.if-first-last.false c.if-s-3.false)
