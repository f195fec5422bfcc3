pub mod CalendarLaws
pub mod DayLaws
